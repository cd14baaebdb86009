-- The first rule instance, in the order of rules and constraints.
use Rattle.std.specs.Prelude.{ℕ, suc, List, [], ◌∷◌, ◌++◌, map, flat_map, Option, Some, None}
use Rattle.ref_terms.specs.search.Fault.{Judged}
use Rattle.ref_terms.specs.search.Program.{Rule}
use Rattle.ref_terms.specs.search.Branch.{Constraint, Branch}
use Rattle.ref_terms.specs.search.Resolve.{Unification}
use Rattle.ref_terms.specs.search.RuleMatch.{heads_of}
use Rattle.ref_terms.specs.search.RuleInstance.{Firing, rule_instance}

-- each constraint with the others
abbrev pub picks : List Constraint → List Constraint → List (Constraint × List Constraint)
picks older [] = []
picks older (c ∷ cs) = (c, older ++ cs) ∷ picks (older ++ c ∷ []) cs

-- so many distinct constraints, lexicographically in store order
abbrev pub tuples : {H : Type 0} → List H → List Constraint → List (List Constraint)
tuples [] store = [] ∷ []
tuples (h ∷ hs) store = flat_map (λ p. map (λ cs. p.0 ∷ cs) (tuples hs p.1)) (picks [] store)

-- the first of two that there is
abbrev pub or_later : Option (Judged Firing) → Option (Judged Firing) → Option (Judged Firing)
or_later (Some f) later = Some f
or_later None later = later

-- the first instance or fault among these tuples of one rule
abbrev pub first_tuple : Unification → Branch → (place : ℕ) → Rule → List (List Constraint) → Option (Judged Firing)
first_tuple unify branch place r [] = None
first_tuple unify branch place r (cs ∷ css) = or_later (rule_instance unify branch place r cs) (first_tuple unify branch place r css)

-- the first instance or fault of the rules from this place on
abbrev pub first_firing : Unification → Branch → (place : ℕ) → List Rule → Option (Judged Firing)
first_firing unify branch place [] = None
first_firing unify branch place (r ∷ rs) = or_later (first_tuple unify branch place r (tuples (heads_of r) branch.store)) (first_firing unify branch (suc place) rs)
