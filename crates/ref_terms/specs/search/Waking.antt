-- Which constraints an assignment may wake.
use Rattle.std.specs.Prelude.{◌≡◌, ℕ, Bool, true, List, Option, Some, None}
use Rattle.ref_terms.specs.terms.Term.{Head, Con, Var, Term}
use Rattle.ref_terms.specs.unification.Spine.{head_of}
use Rattle.ref_terms.specs.search.Branch.{Constraint}
use Rattle.ref_terms.specs.search.Used.{Every}

-- the variable of a head
abbrev pub variable_of : Option Head → Option ℕ
variable_of (Some (Var v)) = Some v
variable_of (Some (Con c)) = None
variable_of (Some _) = None
variable_of None = None

-- the variable that heads a term
abbrev pub heading : Term → Option ℕ
heading t = variable_of (head_of t)

-- the key is headed by a variable that is watched
abbrev pub IsWatchedKey : (watched : ℕ → Bool) → Term → Type 0
IsWatchedKey watched k = (v : ℕ) × (heading k ≡ Some v) × (watched v ≡ true)

-- each key is
abbrev pub IsQuiet : (watched : ℕ → Bool) → List Term → Type 0
IsQuiet watched ks = Every (IsWatchedKey watched) ks
