-- The static rules: where each of them is broken, and the first broken one in the order of the texts.
use Rattle.std.specs.Prelude.{ℕ, ◌+◌, Bool, true, false, ◌&&◌, ◌||◌, not, if◌then◌else◌, nat_eq, nat_lt, List, [], ◌∷◌, ◌++◌, length, map, flat_map, filter, Option, Some, None, option_map, option_and_then}
use Rattle.std.specs.List.{list_any, zip, position}
use Rattle.std.specs.Option.{option_map_or}
use Rattle.lp_parser.specs.declared.ast.Place.{Place}
use Rattle.ref_terms.specs.declared.tree.Tree.{Tree}
use Rattle.lp_resolve.specs.declared.static_rule.StaticRule.{StaticRule}
use Rattle.lp_resolve.specs.declared.static_rule.StaticRule.TheVariants.{S1, S2, S3, S4, S5, S6, S7, S8}
use Rattle.lp_resolve.specs.declared.program.Program.{Program}
use Rattle.lp_resolve.specs.declared.program.PredLine.{PredLine}
use Rattle.lp_resolve.specs.declared.program.Pred.{Pred}
use Rattle.lp_resolve.specs.declared.program.ClauseTree.{ClauseTree}
use Rattle.lp_resolve.specs.declared.program.HeadTree.{HeadTree}
use Rattle.lp_resolve.specs.declared.program.PairTree.{PairTree}
use Rattle.lp_resolve.specs.declared.program.RuleTree.{RuleTree}
use Rattle.lp_resolve.specs.Heads.{constant_of, args_of, variable_of}
use Rattle.lp_resolve.specs.Occurrences.{Occurrence, occurrences, are_distinct_names}
use Rattle.lp_resolve.specs.Places.{is_less_or}
use Rattle.lp_resolve.specs.Preds.{pred_at}

-- a broken rule, with the place where it is broken
pub record Breach : Type 0 where
  pub rule : StaticRule
  pub place : Place

-- a head of a clause or of a rule: its tree, its first token that isn't `(`, and the tokens of its variables from the left
pub record PlacedHead : Type 0 where
  pub tree : Tree
  pub place : Place
  pub vars : List Place

-- the head of a clause
abbrev pub clause_head : ClauseTree → PlacedHead
clause_head c = record { tree = c.head; place = c.places.head; vars = c.places.vars }

-- the heads of a rule, kept ones first
abbrev pub heads_of : RuleTree → List HeadTree
heads_of r = r.kept ++ r.removed

-- the goals of a rule's heads
abbrev pub goals_of : RuleTree → List Tree
goals_of r = map (λ h. h.goal) (heads_of r)

-- the heads of a rule, with their places
abbrev pub rule_heads : RuleTree → List PlacedHead
rule_heads r = map (λ h. record { tree = h.0; place = h.1.0; vars = h.1.1 }) (zip (goals_of r) (zip r.places.heads r.places.vars))

-- all heads of a program
abbrev pub placed_heads : Program → List PlacedHead
placed_heads p = map clause_head p.clauses ++ flat_map rule_heads p.rules

-- the places of the items that pass the test
abbrev pub where_true : {A : Type 0} → (A → Bool) → List (A × Place) → List Place
where_true test items = map (λ i. i.1) (filter (λ i. test i.0) items)

-- a name that is declared
abbrev pub is_declared : ℕ → List PredLine → Bool
is_declared c lines = list_any (λ d. nat_eq c d.name.0) lines

-- S1 is broken at the name of each declaration of a name that an earlier one declares.
abbrev pub redeclared : (earlier : List PredLine) → List PredLine → List Place
redeclared earlier [] = []
redeclared earlier (d ∷ lines) =
    (if is_declared d.name.0 earlier then d.place ∷ [] else []) ++ redeclared (earlier ++ d ∷ []) lines

-- a tree that isn't headed by a constant
abbrev pub lacks_constant : Tree → Bool
lacks_constant t = option_map_or (λ c. false) (constant_of t) true

-- a tree with another number of arguments than this predicate
abbrev pub differs_from : Pred → Tree → Bool
differs_from p t = not (nat_eq (length p.inputs) (length (args_of t)))

-- a tree whose constant is a predicate with another number of arguments
abbrev pub has_other_arity : List (ℕ × Pred) → Tree → Bool
has_other_arity preds t = option_map_or (λ p. differs_from p t) (option_and_then (λ c. pred_at c preds) (constant_of t)) false

-- a reserved constant: those are the first 23
abbrev pub is_reserved : ℕ → Bool
is_reserved c = nat_lt c 23

-- a tree whose constant is reserved
abbrev pub has_reserved_head : Tree → Bool
has_reserved_head t = option_map_or is_reserved (constant_of t) false

-- S4 is broken at the token of each variable whose arguments aren't distinct bound names.
abbrev pub unusable_variables : PlacedHead → List Place
unusable_variables h = where_true (λ o. not (are_distinct_names o.spine)) (zip (occurrences h.tree) h.vars)

-- a head one of whose arguments is this variable alone
abbrev pub has_whole : ℕ → Tree → Bool
has_whole v t = list_any (λ a. option_map_or (nat_eq v) (variable_of a) false) (args_of t)

-- the first head with this variable as a whole argument, counted from 0
abbrev pub head_with : ℕ → List Tree → Option ℕ
head_with v goals = position (has_whole v) goals

-- both heads are there, and the left one is before the right one
abbrev pub are_in_order : Option ℕ → Option ℕ → Bool
are_in_order (Some i) (Some j) = nat_lt i j
are_in_order _ _ = false

-- a pair whose sides don't stand so
abbrev pub is_unaligned : List Tree → PairTree → Bool
is_unaligned goals pair = not (are_in_order (head_with pair.left goals) (head_with pair.right goals))

-- how many arguments a test has: `var`, `nonvar` and `name` one, `same`, `distinct` and `lt` two
abbrev pub test_arity : ℕ → Option ℕ
test_arity c =
    if nat_eq c 11 || nat_eq c 23 || nat_eq c 12 then Some 1
    else if nat_eq c 10 || nat_eq c 24 || nat_eq c 14 then Some 2
    else None

-- a tree that is a test
abbrev pub is_test : Tree → Bool
is_test t = option_map_or (λ n. nat_eq n (length (args_of t))) (option_and_then test_arity (constant_of t)) false

-- a rule with more than three heads
abbrev pub has_many_heads : RuleTree → Bool
has_many_heads r = nat_lt 3 (length (heads_of r))

-- the breaches of one rule at these places
abbrev pub breaches_at : StaticRule → List Place → List Breach
breaches_at s places = map (λ p. record { rule = s; place = p }) places

-- the breaches of a declaration alone
abbrev pub line_breaches : PredLine → List Breach
line_breaches d = breaches_at S5 (if is_reserved d.name.0 then d.place ∷ [] else [])

-- the breaches of a head, where these are the predicates
abbrev pub head_breaches : List (ℕ × Pred) → PlacedHead → List Breach
head_breaches preds h =
    breaches_at S2 (if lacks_constant h.tree then h.place ∷ [] else [])
    ++ breaches_at S3 (if has_other_arity preds h.tree then h.place ∷ [] else [])
    ++ breaches_at S4 (unusable_variables h)
    ++ breaches_at S5 (if has_reserved_head h.tree then h.place ∷ [] else [])

-- the breaches of a rule, those of its heads aside
abbrev pub rule_breaches : RuleTree → List Breach
rule_breaches r =
    breaches_at S6 (if has_many_heads r then r.places.rule ∷ [] else [])
    ++ breaches_at S7 (where_true (is_unaligned (goals_of r)) (zip r.pairs r.places.pairs))
    ++ breaches_at S8 (where_true (λ t. not (is_test t)) (zip r.tests r.places.tests))

-- all breaches of a program
abbrev pub breaches : Program → List Breach
breaches p =
    breaches_at S1 (redeclared [] p.decls)
    ++ flat_map line_breaches p.decls
    ++ flat_map (head_breaches p.preds) (placed_heads p)
    ++ flat_map rule_breaches p.rules

-- the number of a rule
abbrev pub number_of : StaticRule → ℕ
number_of S1 = 1
number_of S2 = 2
number_of S3 = 3
number_of S4 = 4
number_of S5 = 5
number_of S6 = 6
number_of S7 = 7
number_of S8 = 8

-- the order of breaches: by file, then by byte, then by the number of the rule
abbrev pub is_before : Breach → Breach → Bool
is_before a b = is_less_or a.place.file b.place.file (is_less_or a.place.at b.place.at (nat_lt (number_of a.rule) (number_of b.rule)))

-- the earlier of two breaches, where there are any
abbrev pub earlier : Option Breach → Option Breach → Option Breach
earlier None b = b
earlier (Some a) None = Some a
earlier (Some a) (Some b) = if is_before b a then Some b else Some a

-- the first of these breaches
abbrev pub first_of : List Breach → Option Breach
first_of [] = None
first_of (b ∷ bs) = earlier (Some b) (first_of bs)

-- the first broken rule of a program
unfoldable pub first_breach : Program → Option Breach
first_breach p = first_of (breaches p)
