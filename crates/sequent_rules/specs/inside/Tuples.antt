-- Tuples by the numbers of their constraints.
use Rattle.std.specs.Prelude.{◌≡◌, ℕ, zero, suc, cond, nat_eq, true, List, [], ◌∷◌, ◌++◌, map, flat_map, Option}
use Rattle.ref_terms.specs.terms.Term.{At, Con}
use Rattle.ref_terms.specs.unification.Unification.{unify}
use Rattle.ref_terms.specs.search.Fault.{Judged}
use Rattle.ref_terms.specs.search.Program.{Rule}
use Rattle.ref_terms.specs.search.Branch.{Constraint, Branch}
use Rattle.ref_terms.specs.search.RuleInstance.{Firing, rule_instance}
use Rattle.ref_terms.specs.search.FirstRule.{first_tuple}
use Rattle.ref_terms.specs.search.Used.{Every}
use Rattle.hyp_clause.specs.declared.hyp.Hyp.{Hyp}
use Rattle.suspend.specs.Store.{Event, is_stored}
use Rattle.level_terms.specs.Graph.{Graph}
use Rattle.sequent_rules.specs.Branches.{constraints_in}

-- each of a list with the others
abbrev pub picked : {A : Type 0} → List A → List A → List (A × List A)
picked older [] = []
picked older (x ∷ xs) = (x, older ++ xs) ∷ picked (older ++ x ∷ []) xs

-- so many of a list, each at another place, lexicographically
abbrev pub choices : {A : Type 0} → ℕ → List A → List (List A)
choices zero xs = [] ∷ []
choices (suc n) xs = flat_map (λ p. map (λ ys. p.0 ∷ ys) (choices n p.1)) (picked [] xs)

-- the constraint of a number; where there is none, one that no head fits
abbrev pub numbered : List Constraint → ℕ → Constraint
numbered [] n = record { number = n; names = 0; assumptions = []; term = At (Con 0); keys = [] }
numbered (c ∷ cs) n = cond (nat_eq c.number n) c (numbered cs n)

-- the constraints of numbers
abbrev pub all_numbered : Branch → List ℕ → List Constraint
all_numbered b ns = map (numbered b.store) ns

-- what the rule does to the constraints of these numbers
abbrev pub tried : Branch → (place : ℕ) → Rule → List ℕ → Option (Judged Firing)
tried b place r ns = rule_instance unify b place r (all_numbered b ns)

-- the first instance or fault among the tuples of these numbers
abbrev pub first_tried : Branch → (place : ℕ) → Rule → List (List ℕ) → Option (Judged Firing)
first_tried b place r nss = first_tuple unify b place r (map (all_numbered b) nss)

-- the tuples that begin with these numbers and go on with so many of the others
abbrev pub going_on : List ℕ → (left : ℕ) → (others : List ℕ) → List (List ℕ)
going_on before left others = map (λ ns. before ++ ns) (choices left others)

-- all are numbers of stored constraints
abbrev pub AllStored : List (Event (List Hyp)) → List ℕ → Type 0
AllStored log ns = Every (λ n. is_stored log n ≡ true) ns

-- the stored constraints of numbers, as the heap has them
abbrev pub tuple_in : Graph → List (Event (List Hyp)) → List ℕ → List Constraint
tuple_in g log ns = map (numbered (constraints_in g log)) ns

-- the tuples that begin with these numbers and go on with one of the rest and so many of the others
abbrev pub picked_on : List ℕ → (left : ℕ) → (older rest : List ℕ) → List (List ℕ)
picked_on before left older rest = flat_map (λ p. map (λ ns. before ++ (p.0 ∷ ns)) (choices left p.1)) (picked older rest)
