-- The constants at the heads of assumptions.
use Rattle.std.specs.Prelude.{◌≡◌, ℕ, List, [], ◌∷◌, map, Some}
use Rattle.ref_terms.specs.terms.Term.{Term, Con}
use Rattle.ref_terms.specs.unification.Problem.{Binding}
use Rattle.ref_terms.specs.unification.Spine.{head_of, args_of}
use Rattle.ref_terms.specs.search.Assumption.{Assumption, assumptions_of}
use Rattle.ref_terms.specs.search.Branch.{bound_assumption}
use Rattle.ref_terms.specs.search.Fault.{Good}
use Rattle.ref_terms.specs.search.Instance.{assumption_instance, parameter_instance}

-- the head of an assumption is an atom of its constant
abbrev pub IsHeaded : Assumption → Type 0
IsHeaded a = head_of a.head ≡ Some (Con a.pred)

-- so one by one
abbrev pub AllHeaded : List Assumption → Type 0
AllHeaded [] = Unit {0}
AllHeaded (a ∷ more) = IsHeaded a × AllHeaded more

-- the clauses that a term assumes are such
abbrev pub AssumedAreHeaded : Type 0
AssumedAreHeaded = (scope : ℕ) (t : Term) (assumptions : List Assumption) → assumptions_of scope t ≡ Good assumptions → AllHeaded assumptions

-- the names of these assumptions are those of a scope, and their parameters follow
abbrev pub AllScoped : ℕ → List Assumption → Type 0
AllScoped scope [] = Unit {0}
AllScoped scope (a ∷ more) = (a.scope ≡ scope) × AllScoped scope more

-- so are those of the clauses that a term assumes
abbrev pub AssumedAreScoped : Type 0
AssumedAreScoped = (scope : ℕ) (t : Term) (assumptions : List Assumption) → assumptions_of scope t ≡ Good assumptions → AllScoped scope assumptions

-- the heads stay so under bindings
abbrev pub BoundAreHeaded : Type 0
BoundAreHeaded = (bs : List Binding) (assumptions : List Assumption) → AllHeaded assumptions → AllHeaded (map (bound_assumption bs) assumptions)

-- the arguments of the head of such an assumption's instance are the instances of its arguments
abbrev pub ArgumentsOfAssumption : Type 0
ArgumentsOfAssumption = (a : Assumption) (names next : ℕ) → IsHeaded a → args_of (assumption_instance a names next).head ≡ map (parameter_instance a names next) (args_of a.head)
