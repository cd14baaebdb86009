-- What the static rules leave of a rule's pairs: each is of an earlier head and a later one.
use Rattle.std.proofs.Common.{◌≡◌, ◌∙◌, ℕ, suc, ◌+◌, ◌<◌, Bool, true, false, ◌||◌, not, nat_eq, nat_lt, cond, List, [], ◌∷◌, ◌++◌, map, length, Option, Some, None, IfSome, option_map, refl, ap, ap₂, sym, subst, arith}
use Rattle.std.specs.List.{filter, filter_map, cons_option, list_any, position_from, zip}
use Rattle.std.specs.Option.{option_map_or}
use Rattle.std.proofs.lemmas.Bool.{ltb-true}
use Rattle.std.proofs.lemmas.Iterator.Adapters.{position_from-zero}
use Rattle.lp_parser.specs.declared.ast.Place.{Place}
use Rattle.ref_terms.specs.declared.pair.Pair.{Pair}
use Rattle.ref_terms.specs.declared.tree.Tree.{Tree}
use Rattle.ref_terms.specs.search.Used.{Every}
use Rattle.lp_resolve.specs.declared.program.PairTree.{PairTree}
use Rattle.lp_resolve.specs.declared.program.RuleTree.{RuleTree}
use Rattle.lp_resolve.specs.declared.static_rule.StaticRule.TheVariants.{S6, S7, S8}
use Rattle.lp_resolve.specs.Heads.{args_of, variable_of}
use Rattle.lp_resolve.specs.Plain.{aligned, plain_pair, whole_argument, whole_place}
use Rattle.lp_resolve.specs.StaticRules.{breaches_at, where_true, has_whole, head_with, are_in_order, is_unaligned, is_test, has_many_heads, rule_breaches, goals_of}
use Rattle.lp_resolve.specs.WellFormed.{IsRuleFormed}
use Rattle.clause_compile.proofs.FitLemmas.{append-none}

-- the head of the left side is before that of the right one
abbrev pub IsAhead : Pair → Type 0
IsAhead p = p.left_head < p.right_head

-- whether there is one
abbrev is_there : Option ℕ → Bool
is_there o = option_map_or (λ i. true) o false

-- an item passes a test exactly where there is a first one
any-first : {A : Type 0} (p : A → Bool) (k : ℕ) (xs : List A) → list_any p xs ≡ is_there (position_from p k xs)
any-first p k [] = refl
any-first p k (x ∷ xs) = go (p x) (any-first p (k + 1) xs)
  where
    go : (b : Bool) → list_any p xs ≡ is_there (position_from p (k + 1) xs) → (b || list_any p xs) ≡ is_there (cond b (Some k) (position_from p (k + 1) xs))
    go true later = refl
    go false later = later

whole-there : (v : ℕ) (t : Tree) → has_whole v t ≡ is_there (whole_argument v t)
whole-there v t =
    let test : Tree → Bool = λ a. option_map_or (nat_eq v) (variable_of a) false in
    any-first test 0 (args_of t) ∙ ap is_there (sym (position_from-zero test (args_of t)))

-- the head of the first whole argument is the first head that has one
heads-from : (v n : ℕ) (goals : List Tree) → position_from (has_whole v) n goals ≡ option_map (λ p. p.0) (whole_place v n goals)
heads-from v n [] = refl
heads-from v n (t ∷ goals) =
    let one : n + 1 ≡ suc n = omega arith in
    go (whole_argument v t) (has_whole v t) (whole-there v t) (subst (λ k. position_from (has_whole v) k goals ≡ option_map (λ p. p.0) (whole_place v (suc n) goals)) (sym one) (heads-from v (suc n) goals))
  where
    go : (o : Option ℕ) (b : Bool) → b ≡ is_there o → position_from (has_whole v) (n + 1) goals ≡ option_map (λ p. p.0) (whole_place v (suc n) goals) →
        cond b (Some n) (position_from (has_whole v) (n + 1) goals) ≡ option_map (λ p. p.0) (option_map_or {U = Option (ℕ × ℕ)} (λ arg. Some (n, arg)) o (whole_place v (suc n) goals))
    go (Some arg) true e later = refl
    go (Some arg) false e later = absurd (let k : false ≡ true = e in cc)
    go None true e later = absurd (let k : true ≡ false = e in cc)
    go None false e later = later

head-of-place : (v : ℕ) (goals : List Tree) → head_with v goals ≡ option_map (λ p. p.0) (whole_place v 0 goals)
head-of-place v goals = position_from-zero (has_whole v) goals ∙ heads-from v 0 goals

-- a pair that is aligned
places-ahead : (l r : Option (ℕ × ℕ)) → not (are_in_order (option_map (λ p. p.0) l) (option_map (λ p. p.0) r)) ≡ false → IfSome (aligned l r) IsAhead
places-ahead None None e = tt
places-ahead None (Some r) e = tt
places-ahead (Some l) None e = tt
places-ahead (Some l) (Some r) e = go (nat_lt l.0 r.0) refl e
  where
    go : (b : Bool) → nat_lt l.0 r.0 ≡ b → not b ≡ false → l.0 < r.0
    go true is e = ltb-true l.0 r.0 is
    go false is e = absurd (let k : true ≡ false = e in cc)

pair-ahead : (goals : List Tree) (pair : PairTree) → is_unaligned goals pair ≡ false → IfSome (plain_pair goals pair) IsAhead
pair-ahead goals pair e =
    places-ahead (whole_place pair.left 0 goals) (whole_place pair.right 0 goals)
    (sym (ap₂ (λ (l r : Option ℕ). not (are_in_order l r)) (head-of-place pair.left goals) (head-of-place pair.right goals)) ∙ e)

-- so each of them
every-cons : {A : Type 0} (P : A → Type 0) (o : Option A) (xs : List A) → IfSome o P → Every P xs → Every P (cons_option o xs)
every-cons P None xs w ws = ws
every-cons P (Some x) xs w ws = (w, ws)

pairs-ahead : (goals : List Tree) (pairs : List PairTree) (ps : List Place) → length ps ≡ length pairs → breaches_at S7 (where_true (is_unaligned goals) (zip pairs ps)) ≡ [] → Every IsAhead (filter_map (plain_pair goals) pairs)
pairs-ahead goals [] ps long e = tt
pairs-ahead goals (pair ∷ pairs) [] long e = absurd (let z : 0 ≡ suc (length pairs) = long in omega (arith, z))
pairs-ahead goals (pair ∷ pairs) (p ∷ ps) long e =
    let w = go (is_unaligned goals pair) e in
    every-cons IsAhead (plain_pair goals pair) (filter_map (plain_pair goals) pairs) (pair-ahead goals pair w.0)
    (pairs-ahead goals pairs ps (let z : suc (length ps) ≡ suc (length pairs) = long in omega (arith, z)) w.1)
  where
    rest : List (PairTree × Place)
    rest = filter (λ i. is_unaligned goals i.0) (zip pairs ps)

    go : (b : Bool) → breaches_at S7 (map (λ i. i.1) (cond b ((pair, p) ∷ rest) rest)) ≡ [] → (b ≡ false) × (breaches_at S7 (map (λ i. i.1) rest) ≡ [])
    go true e = absurd (let k : record { rule = S7; place = p } ∷ breaches_at S7 (map (λ i. i.1) rest) ≡ [] = e in cc)
    go false e = (refl, e)

pub rule-ahead : (r : RuleTree) → IsRuleFormed r → rule_breaches r ≡ [] → Every IsAhead (filter_map (plain_pair (goals_of r)) r.pairs)
rule-ahead r w e =
    let s6 = breaches_at S6 (cond (has_many_heads r) (r.places.rule ∷ []) []) in
    let s7 = breaches_at S7 (where_true (is_unaligned (goals_of r)) (zip r.pairs r.places.pairs)) in
    let s8 = breaches_at S8 (where_true (λ t. not (is_test t)) (zip r.tests r.places.tests)) in
    pairs-ahead (goals_of r) r.pairs r.places.pairs w.pair_places (append-none s6 s7 (append-none (s6 ++ s7) s8 e).0).1
