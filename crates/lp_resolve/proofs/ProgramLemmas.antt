-- Programs that were read.
use Rattle.std.proofs.Common.{◌≡◌, ◌∙◌, ◌+◌, ◌-◌, ◌≤◌, ◌<◌, ℕ, List, [], ◌∷◌, ◌++◌, Option, Some, None, IfSome, All, length, map, flat_map, drop, take, ap, sym, refl, subst, arith}
use Rattle.std.proofs.lemmas.List.{map-append}
use Rattle.std.proofs.lemmas.List.Elements.{All-nil, All-cons, All-append, All-map}
use Rattle.lp_parser.specs.declared.ast.Item.{Item}
use Rattle.lp_parser.specs.declared.ast.Item.TheVariants as item
use Rattle.lp_parser.specs.declared.ast.Decl.{Decl}
use Rattle.lp_parser.specs.declared.ast.Rule.{Rule}
use Rattle.ref_terms.specs.declared.sym.Sym.{Sym}
use Rattle.lp_resolve.specs.declared.program.Program.{Program}
use Rattle.lp_resolve.specs.declared.program.Pred.{Pred}
use Rattle.lp_resolve.specs.declared.program.PredLine.{PredLine}
use Rattle.lp_resolve.specs.declared.program.ClauseTree.{ClauseTree}
use Rattle.lp_resolve.specs.declared.program.RuleTree.{RuleTree}
use Rattle.lp_resolve.specs.Gathered.{gathered}
use Rattle.lp_resolve.specs.ProgramReading.{symbol_of, rule_of, item_lines, item_clauses, item_rules, program_of}
use Rattle.lp_resolve.specs.WellFormed.{IsClauseFormed, IsRuleFormed, IsWellFormed}
use Rattle.lp_resolve.proofs.ClauseLemmas.{clause_of-formed}
use Rattle.lp_resolve.proofs.RuleFormed.{rule_of-formed}

-- a program of the lists that were read
pub program-same : (table : List (List ℕ)) (ast items : List Item) (lines lines' : List PredLine) (clauses clauses' : List ClauseTree) (rules : List RuleTree) (preds : List (ℕ × Pred))
    → items ≡ ast → lines ≡ flat_map (item_lines table) items → clauses ≡ flat_map (item_clauses table) items → rules ≡ flat_map (item_rules table) items
    → lines' ≡ lines → clauses' ≡ clauses → preds ≡ gathered lines' clauses'
    → ◌≡◌ (record { preds = preds; clauses = clauses; rules = rules; decls = lines }) (program_of table ast)
program-same table ast items lines lines' clauses clauses' rules preds i l c r l' c' p =
    ap (λ (ps : List (ℕ × Pred)). record { preds = ps; clauses = clauses; rules = rules; decls = lines }) (p ∙ ap (λ ls. gathered ls clauses') l' ∙ ap (λ cs. gathered lines cs) c')
    ∙ ap (λ (ls : List PredLine). record { preds = gathered ls clauses; clauses = clauses; rules = rules; decls = ls }) l
    ∙ ap (λ (cs : List ClauseTree). record { preds = gathered (flat_map (item_lines table) items) cs; clauses = cs; rules = rules; decls = flat_map (item_lines table) items }) c
    ∙ ap (λ (rs : List RuleTree). record { preds = gathered (flat_map (item_lines table) items) (flat_map (item_clauses table) items); clauses = flat_map (item_clauses table) items; rules = rs; decls = flat_map (item_lines table) items }) r
    ∙ ap (program_of table) i

-- what holds of all that each item gives
all-flat_map : {A B : Type 0} (P : B → Type 0) (f : A → List B) → ((x : A) → All P (f x)) → (xs : List A) → All P (flat_map f xs)
all-flat_map P f each [] = All-nil P
all-flat_map P f each (x ∷ xs) = All-append P (f x) (flat_map f xs) (each x) (all-flat_map P f each xs)

-- what holds of each image
all-map : {A B : Type 0} (P : B → Type 0) (f : A → B) → ((x : A) → P (f x)) → (xs : List A) → All P (map f xs)
all-map P f each [] = All-nil P
all-map P f each (x ∷ xs) = All-cons P (f x) (map f xs) (each x) (all-map P f each xs)

-- the clauses of an item are well formed
item_clauses-formed : (table : List (List ℕ)) (i : Item) → All IsClauseFormed (item_clauses table i)
item_clauses-formed table (item.Decl d) = All-nil IsClauseFormed
item_clauses-formed table (item.Clause c) = All-cons IsClauseFormed _ [] (clause_of-formed table c) (All-nil IsClauseFormed)
item_clauses-formed table (item.Block b) = All-nil IsClauseFormed

-- and so are its rules
item_rules-formed : (table : List (List ℕ)) (i : Item) → All IsRuleFormed (item_rules table i)
item_rules-formed table (item.Decl d) = All-nil IsRuleFormed
item_rules-formed table (item.Clause c) = All-nil IsRuleFormed
item_rules-formed table (item.Block b) = all-map IsRuleFormed (rule_of table (map (symbol_of table) b.names)) (rule_of-formed table (map (symbol_of table) b.names)) b.rules

-- the program of the items is well formed
pub program_of-formed : (table : List (List ℕ)) (items : List Item) → IsWellFormed (program_of table items)
program_of-formed table items = record {
  clauses = all-flat_map IsClauseFormed (item_clauses table) (item_clauses-formed table) items;
  rules = all-flat_map IsRuleFormed (item_rules table) (item_rules-formed table) items;
  preds = refl;
}
