-- The facts on ready terms; nothing else looks into `ready`.
use Rattle.std.proofs.Common.{◌≡◌, ℕ, true, false, refl, ap, ◌∙◌}
use Rattle.ref_terms.specs.terms.Term.{Term, Lam, At, App, Head, Con, Name, Bound, Var}
use Rattle.ref_terms.specs.terms.Index.{ren, sub}
use Rattle.ref_terms.specs.terms.Ready.{ready}
use Rattle.ref_terms.specs.terms.Renamed.{vars}
use Rattle.ref_terms.specs.terms.Apply.{apply, fill}
use Rattle.ref_terms.specs.laws.ReadyLaws.{IsRigid}
use Rattle.ref_terms.specs.laws.TermLaws.{KeepsReady}
use Rattle.ref_terms.specs.lemmas.TermLemmas.{ren_sub}

pub ready-name : (n : ℕ) → ready (At (Name n)) ≡ true
unfolding ready
ready-name n = refl

pub ready-bound : (n : ℕ) → ready (At (Bound n)) ≡ true
unfolding ready
ready-bound n = refl

pub ready-lam : (b : Term) → ready (Lam b) ≡ false
unfolding ready
ready-lam b = refl

-- substituting ready terms
pub ready-sub : (s : ℕ → Term) → ((i : ℕ) → ready (s i) ≡ true) → (t : Term) → ready (sub s t) ≡ ready t
unfolding ready
ready-sub s h (Lam b) = refl
ready-sub s h (At (Bound i)) = h i
ready-sub s h (At (Con c)) = refl
ready-sub s h (At _) = refl
ready-sub s h (App f a) = ready-sub s h f

-- what is ready stays so with one more argument
apply-ready : (t s : Term) → ready t ≡ true → ready (apply t s) ≡ true
unfolding ready
apply-ready (Lam b) s h = absurd (let e : false ≡ true = h in cc)
apply-ready (At k) s h = h
apply-ready (App f a) s h = h

-- replacing heads, where what can be ready stays so
pub ready-fill : (r : Head → Term) → KeepsReady r → (t : Term) → ready t ≡ true → ready (fill r t) ≡ true
unfolding ready
ready-fill r k (Lam b) h = absurd (let e : false ≡ true = h in cc)
ready-fill r k (At h') h = k h' h
ready-fill r k (App f a) h = apply-ready (fill r f) (fill r a) (ready-fill r k f h)

pub ready-ren : (f : ℕ → ℕ) (t : Term) → ready (ren f t) ≡ ready t
ready-ren f t = ap ready (ren_sub f t) ∙ ready-sub _ (λ i. ready-bound (f i)) t

pub ready-var : (v : ℕ) → ready (At (Var v)) ≡ false
unfolding ready
ready-var v = refl

-- renaming variables
pub ready-vars : (p : ℕ → ℕ) (t : Term) → ready (vars p t) ≡ ready t
unfolding ready
ready-vars p (Lam b) = refl
ready-vars p (At (Con c)) = refl
ready-vars p (At _) = refl
ready-vars p (App f a) = ready-vars p f

-- no abstraction and no variable is at the head
pub ready-rigid : (t : Term) → ready t ≡ true → IsRigid t
unfolding ready
ready-rigid (Lam b) h = absurd (let e : false ≡ true = h in cc)
ready-rigid (At (Var v)) h = absurd (let e : false ≡ true = h in cc)
ready-rigid (At (Con c)) h = tt
ready-rigid (At _) h = tt
ready-rigid (App f a) h = ready-rigid f h
