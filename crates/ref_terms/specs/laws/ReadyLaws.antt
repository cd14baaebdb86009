-- What the laws on ready terms say: four facts, and nothing else is used of the word.
use Rattle.std.specs.Prelude.{◌≡◌, ℕ, true, false}
use Rattle.ref_terms.specs.terms.Term.{Head, Con, Name, Bound, Var, Term, Lam, At, App}
use Rattle.ref_terms.specs.terms.Ready.{ready}
use Rattle.ref_terms.specs.terms.Apply.{open_with}
use Rattle.ref_terms.specs.terms.Built.{IsBuilt}
use Rattle.ref_terms.specs.terms.Instance.{inst}

-- a constant, an integer, a string, a name or a bound index
abbrev pub IsRigidHead : Head → Type 0
IsRigidHead (Var v) = ⊥
IsRigidHead (Con c) = Unit {0}
IsRigidHead _ = Unit {0}

-- such a head is at the front of the term
abbrev pub IsRigid : Term → Type 0
IsRigid (Lam b) = ⊥
IsRigid (At h) = IsRigidHead h
IsRigid (App f a) = IsRigid f

-- a name without arguments is ready
abbrev pub NameIsReady : Type 0
NameIsReady = (n : ℕ) → ready (At (Name n)) ≡ true

-- and so is a bound index without arguments
abbrev pub BoundIndexIsReady : Type 0
BoundIndexIsReady = (i : ℕ) → ready (At (Bound i)) ≡ true

-- a ready term is headed by a constant, an integer, a string, a name or a bound index
abbrev pub ReadyIsRigid : Type 0
ReadyIsRigid = (t : Term) → ready t ≡ true → IsRigid t

-- a ready term is ready after an instance
abbrev pub ReadyAfterInstance : Type 0
ReadyAfterInstance = (v : ℕ) (u t : Term) → ready t ≡ true → ready (inst v u t) ≡ true

-- and after opening with a ready term
abbrev pub ReadyAfterOpening : Type 0
ReadyAfterOpening = (t s : Term) → ready t ≡ true → ready s ≡ true → ready (open_with t s) ≡ true

-- a built term that isn't ready isn't so after such an opening either
abbrev pub UnreadyAfterOpening : Type 0
UnreadyAfterOpening = (t s : Term) → IsBuilt t → ready t ≡ false → ready s ≡ true → ready (open_with t s) ≡ false
