-- Where a list of lexemes is refused, and by which rule. The accepted lists are those of programs, or of queries.
use Rattle.std.specs.Prelude.{◌≡◌, ℕ, ◌+◌, ◌<◌, List, [], ◌∷◌, ◌++◌, length, take}
use Rattle.lp_parser.specs.declared.error.GrammarRule.{GrammarRule}
use Rattle.lp_parser.specs.declared.error.GrammarRule.TheVariants.{Item, Kind, TypeItem, Pred, Constraint, Rule, Clause, Query}
use Rattle.lp_parser.specs.declared.lexeme.Mark.{Mark}
use Rattle.lp_parser.specs.declared.lexeme.Mark.TheVariants.{Dot, CloseCurly, KindWord, TypeWord, PredWord, ConstraintWord, RuleWord}
use Rattle.lp_parser.specs.declared.lexeme.Lexeme.{Lexeme}
use Rattle.lp_parser.specs.declared.lexeme.Lexeme.TheVariants as lexeme
use Rattle.lp_parser.specs.Nesting.{depth, IsShallow}

-- Lexemes are viable where an accepted list begins with them.
abbrev pub Viable : (List Lexeme → Type 0) → List Lexeme → Type 0
Viable accepted u = (others : List Lexeme) × accepted (u ++ others)

-- the rule behind the first lexeme of an item, where that is a mark
abbrev pub rule_of_item : Mark → GrammarRule
rule_of_item KindWord = Kind
rule_of_item TypeWord = TypeItem
rule_of_item PredWord = Pred
rule_of_item ConstraintWord = Constraint
rule_of_item _ = Clause

-- the rule behind a mark in a block, outside its rules
abbrev pub rule_in_block : Mark → GrammarRule
rule_in_block RuleWord = Rule
rule_in_block CloseCurly = Item
rule_in_block _ = Constraint

-- the rule behind a mark in a rule
abbrev pub rule_in_rule : Mark → GrammarRule
rule_in_rule Dot = Constraint
rule_in_rule _ = Rule

-- the rule behind a mark in any other item
abbrev pub rule_in_item : GrammarRule → Mark → GrammarRule
rule_in_item r Dot = Item
rule_in_item r _ = r

-- the rule behind a mark
abbrev pub rule_after_mark : GrammarRule → Mark → GrammarRule
rule_after_mark Item m = rule_of_item m
rule_after_mark Constraint m = rule_in_block m
rule_after_mark Rule m = rule_in_rule m
rule_after_mark Query m = Query
rule_after_mark Kind m = rule_in_item Kind m
rule_after_mark TypeItem m = rule_in_item TypeItem m
rule_after_mark Pred m = rule_in_item Pred m
rule_after_mark Clause m = rule_in_item Clause m

-- the rule behind another lexeme
abbrev pub rule_after_other : GrammarRule → GrammarRule
rule_after_other Item = Clause
rule_after_other Kind = Kind
rule_after_other TypeItem = TypeItem
rule_after_other Pred = Pred
rule_after_other Constraint = Constraint
rule_after_other Rule = Rule
rule_after_other Clause = Clause
rule_after_other Query = Query

-- what the lexeme behind a lexeme stands in
abbrev pub rule_after : GrammarRule → Lexeme → GrammarRule
rule_after r (lexeme.Mark m p) = rule_after_mark r m
rule_after r _ = rule_after_other r

-- what the lexeme behind lexemes stands in
abbrev pub rule_behind : GrammarRule → List Lexeme → GrammarRule
rule_behind r [] = r
rule_behind r (c ∷ u) = rule_behind (rule_after r c) u

-- The list is refused as unexpected at the least index such that the lexemes up to it, with it, are not viable; where all are
-- viable but the list isn't accepted, at its length. Before it no lexeme is nested too deep. The first lexeme stands in `first`.
pub data IsUnexpected (accepted : List Lexeme → Type 0) (first : GrammarRule) (u : List Lexeme) : ℕ → GrammarRule → Type 0 where
  at_lexeme : {i : ℕ} {r : GrammarRule} → i < length u → Viable accepted (take i u) → (Viable accepted (take (i + 1) u) → ⊥)
      → IsShallow u i → r ≡ rule_behind first (take i u) → IsUnexpected accepted first u i r
  at_end : {i : ℕ} {r : GrammarRule} → i ≡ length u → Viable accepted u → (accepted u → ⊥)
      → IsShallow u i → r ≡ rule_behind first u → IsUnexpected accepted first u i r

-- The list is refused as too deep at the first lexeme at which the nesting passes the limit, where the lexemes up to it, with it, are viable.
pub record IsDeep (accepted : List Lexeme → Type 0) (u : List Lexeme) (i : ℕ) : Type 0 where
  pub within : i < length u
  pub viable : Viable accepted (take (i + 1) u)
  pub before : IsShallow u i
  pub passes : 2000 < depth (take (i + 1) u)
