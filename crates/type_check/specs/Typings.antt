-- Typings of clauses and rules.
use Rattle.std.specs.Prelude.{◌≡◌, ℕ, nat_eq, ◌||◌, not, if◌then◌else◌, List, [], ◌++◌, map, length, filter, All, Option, IfSome}
use Rattle.std.specs.Option.{option_map_or}
use Rattle.lp_parser.specs.declared.ast.Place.{Place}
use Rattle.ref_terms.specs.terms.Term as term
use Rattle.ref_terms.specs.terms.Term.{Term}
use Rattle.ref_terms.specs.declared.tree.Tree.{Tree}
use Rattle.lp_resolve.specs.declared.program.Program.{Program}
use Rattle.lp_resolve.specs.declared.program.ClauseTree.{ClauseTree}
use Rattle.lp_resolve.specs.declared.program.RuleTree.{RuleTree}
use Rattle.lp_resolve.specs.declared.program.HeadTree.{HeadTree}
use Rattle.lp_resolve.specs.declared.program.PairTree.{PairTree}
use Rattle.lp_resolve.specs.Heads.{constant_of, args_of}
use Rattle.lp_resolve.specs.Places.{is_before}
use Rattle.type_graph.specs.declared.node.Word.TheVariants as word
use Rattle.type_graph.specs.Types.{Ty, word, applied}
use Rattle.type_terms.specs.declared.scheme.Polytype.{Polytype}
use Rattle.lp_resolve.specs.Trees.{as_term, with_arguments}
use Rattle.type_terms.specs.Typing.{IsAt, HasType}

-- the constant as which the word of a test is typed: `nonvar` and `name` as `var`, `distinct` as `same`
abbrev pub typed_as : ℕ → ℕ
typed_as c = if nat_eq c 23 || nat_eq c 12 then 11 else if nat_eq c 24 then 10 else c

-- a test, with that constant in the place of its word
abbrev pub test_term : Tree → Term
test_term t = option_map_or (λ c. with_arguments (term.At (term.Con (typed_as c))) (map as_term (args_of t))) (constant_of t) (as_term t)

-- `declared` gives each reserved or declared constant its type with variables; the other constants, by their numbers, and
-- the variables of the clause or rule have the types of these two lists
module _ (declared : ℕ → Option Polytype) (constants variables : List Ty) where
  -- a term that has the type of propositions, under no binders
  abbrev pub IsProposition : Term → Type 0
  IsProposition u = HasType declared (record { constants = constants; variables = variables }) [] u (word word.Prop)

  -- a head or body
  abbrev pub IsTreeTyped : Tree → Type 0
  IsTreeTyped t = IsProposition (as_term t)

  abbrev pub IsTestTyped : Tree → Type 0
  IsTestTyped t = IsProposition (test_term t)

  -- a clause: its head and its body have the type of propositions
  pub record IsClauseTyped (c : ClauseTree) : Type 0 where
    pub head : IsTreeTyped c.head
    pub body : IfSome c.body IsTreeTyped

  -- a head of a rule: the variable of its context is a list of propositions
  abbrev pub IsHeadTyped : HeadTree → Type 0
  IsHeadTyped h = IsTreeTyped h.goal × IfSome h.context (λ x. IsAt variables x (applied (word word.List) (word word.Prop)))

-- a pair: both of its variables have one type
abbrev pub IsPairTyped : List Ty → PairTree → Type 0
IsPairTyped variables p = (t : Ty) × IsAt variables p.left t × IsAt variables p.right t

-- a rule
pub record IsRuleTyped (declared : ℕ → Option Polytype) (constants variables : List Ty) (r : RuleTree) : Type 0 where
  pub kept : All (IsHeadTyped declared constants variables) r.kept
  pub removed : All (IsHeadTyped declared constants variables) r.removed
  pub pairs : All (IsPairTyped variables) r.pairs
  pub tests : All (IsTestTyped declared constants variables) r.tests
  pub body : IfSome r.body (IsTreeTyped declared constants variables)

-- some types of its variables type a clause, or a rule
abbrev pub HasClauseTyping : (ℕ → Option Polytype) → List Ty → ClauseTree → Type 0
HasClauseTyping declared constants c = (variables : List Ty) × (length variables ≡ c.vars) × IsClauseTyped declared constants variables c

abbrev pub HasRuleTyping : (ℕ → Option Polytype) → List Ty → RuleTree → Type 0
HasRuleTyping declared constants r = (variables : List Ty) × (length variables ≡ r.vars) × IsRuleTyped declared constants variables r

-- a clause or a rule
pub data Item : Type 0 where
  of_clause : ClauseTree → Item
  of_rule : RuleTree → Item

-- the first token of a clause, and the `rule` of a rule
abbrev pub place_of : Item → Place
place_of (of_clause c) = c.places.first
place_of (of_rule r) = r.places.rule

abbrev pub HasItemTyping : (ℕ → Option Polytype) → List Ty → Item → Type 0
HasItemTyping declared constants (of_clause c) = HasClauseTyping declared constants c
HasItemTyping declared constants (of_rule r) = HasRuleTyping declared constants r

-- the clauses and rules of a program
abbrev pub items_of : Program → List Item
items_of p = map of_clause p.clauses ++ map of_rule p.rules

-- these types of so many constants type all of these clauses and rules
pub record IsTyping (declared : ℕ → Option Polytype) (count : ℕ) (items : List Item) (constants : List Ty) : Type 0 where
  pub each : length constants ≡ count
  pub typed : All (HasItemTyping declared constants) items

-- some types do
abbrev pub HasTyping : (ℕ → Option Polytype) → (count : ℕ) → List Item → Type 0
HasTyping declared count items = (constants : List Ty) × IsTyping declared count items constants

-- the clauses and rules before a place, and up to it
abbrev pub before : Place → List Item → List Item
before place items = filter (λ i. is_before (place_of i) place) items

abbrev pub upto : Place → List Item → List Item
upto place items = filter (λ i. not (is_before place (place_of i))) items

-- The first clause or rule, in the order of the text, such that those up to and including it have no typing, stands here.
pub record IsUntypedAt (declared : ℕ → Option Polytype) (count : ℕ) (items : List Item) (place : Place) : Type 0 where
  pub typed : HasTyping declared count (before place items)
  pub untyped : HasTyping declared count (upto place items) → ⊥
