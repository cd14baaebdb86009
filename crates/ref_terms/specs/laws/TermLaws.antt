-- What the laws on terms say.
use Rattle.std.specs.Prelude.{◌≡◌, ℕ, true, false}
use Rattle.ref_terms.specs.terms.Term.{Head, Name, Term, At}
use Rattle.ref_terms.specs.terms.Index.{sub, first}
use Rattle.ref_terms.specs.terms.Eta.{lam}
use Rattle.ref_terms.specs.terms.Ready.{ready}
use Rattle.ref_terms.specs.terms.Apply.{apply, below, fill, open_with}
use Rattle.ref_terms.specs.terms.Built.{IsBuilt}
use Rattle.ref_terms.specs.terms.Occurs.{occurs, has_name}
use Rattle.ref_terms.specs.terms.Instance.{inst, inst_all}
use Rattle.ref_terms.specs.unification.Closing.{close}

-- the terms for heads are built, so that what is rebuilt from them is
abbrev pub AllBuilt : (Head → Term) → Type 0
AllBuilt r = (h : Head) → IsBuilt (r h)

-- a ready head gets a ready term, so that a redex that has been contracted never gets stuck again;
-- values of variables meet this, since no variable is ready, and so does abstraction of a name
abbrev pub KeepsReady : (Head → Term) → Type 0
KeepsReady r = (h : Head) → ready (At h) ≡ true → ready (r h) ≡ true

-- replacing heads twice is replacing them once
abbrev pub FillTwiceIsOnce : Type 0
FillTwiceIsOnce = (r q : Head → Term) → AllBuilt r → KeepsReady r → (t : Term) → fill r (fill q t) ≡ fill (λ h. fill r (q h)) t

-- replacing heads commutes with application
abbrev pub FillAppliesTheSame : Type 0
FillAppliesTheSame = (r : Head → Term) → AllBuilt r → KeepsReady r → (f a : Term) → fill r (apply f a) ≡ apply (fill r f) (fill r a)

-- and with abstraction
abbrev pub FillAbstractsTheSame : Type 0
FillAbstractsTheSame = (r : Head → Term) → AllBuilt r → (b : Term) → fill r (lam b) ≡ lam (fill (below r) b)

-- an instance commutes with application
abbrev pub InstanceApplies : Type 0
InstanceApplies = (v : ℕ) (u f a : Term) → IsBuilt u → inst v u (apply f a) ≡ apply (inst v u f) (inst v u a)

-- and so does one of all variables at once
abbrev pub InstanceOfAllApplies : Type 0
InstanceOfAllApplies = (u : ℕ → Term) → ((v : ℕ) → IsBuilt (u v)) → (f a : Term) → inst_all u (apply f a) ≡ apply (inst_all u f) (inst_all u a)

-- application builds from what is built
abbrev pub ApplicationBuilds : Type 0
ApplicationBuilds = (f a : Term) → IsBuilt f → IsBuilt a → IsBuilt (apply f a)

-- and so does abstraction
abbrev pub AbstractionBuilds : Type 0
AbstractionBuilds = (b : Term) → IsBuilt b → IsBuilt (lam b)

-- replacing heads by built terms builds, whatever the term was
abbrev pub FillBuilds : Type 0
FillBuilds = (r : Head → Term) → AllBuilt r → (t : Term) → IsBuilt (fill r t)

-- rebuilding what is built changes nothing
abbrev pub BuiltStays : Type 0
BuiltStays = (t : Term) → IsBuilt t → fill (λ h. At h) t ≡ t

-- a variable that doesn't stand in a term makes no difference
abbrev pub AbsentVariable : Type 0
AbsentVariable = (v : ℕ) (u t : Term) → IsBuilt t → occurs v t ≡ false → inst v u t ≡ t

-- opening with a ready term contracts nothing
abbrev pub OpeningIsReplacing : Type 0
OpeningIsReplacing = (b s : Term) → IsBuilt b → ready s ≡ true → open_with b s ≡ sub (first s) b

-- applying the abstraction of a body to a ready term opens the body
abbrev pub ApplicationOpens : Type 0
ApplicationOpens = (b s : Term) → IsBuilt b → ready s ≡ true → apply (lam b) s ≡ open_with b s

-- abstracting a name undoes the application to it, where the term doesn't have it
abbrev pub AbstractionUndoesApplication : Type 0
AbstractionUndoesApplication = (x : ℕ) (t : Term) → IsBuilt t → has_name x t ≡ false → close x (apply t (At (Name x))) ≡ t

-- application to a name undoes the abstraction of it
abbrev pub ApplicationUndoesAbstraction : Type 0
ApplicationUndoesAbstraction = (x : ℕ) (t : Term) → IsBuilt t → apply (close x t) (At (Name x)) ≡ t
