-- Application and abstraction under substitution.
use Rattle.std.proofs.Common.{◌≡◌, ℕ, zero, suc, Bool, true, false, cond, refl, sym, ap, ◌∙◌}
use mathlib.Core.Path.{fun_ext}
use Rattle.ref_terms.specs.terms.Term.{Term, Lam, At, App, Con, Bound}
use Rattle.ref_terms.specs.terms.Index.{next, under, sub, first}
use Rattle.ref_terms.specs.terms.Ready.{ready}
use Rattle.ref_terms.specs.terms.Apply.{apply}
use Rattle.ref_terms.specs.lemmas.TermLemmas.{sub-ren, sub-sub, sub_id}
use Rattle.ref_terms.specs.lemmas.ReadyFacts.{ready-bound, ready-lam, ready-sub, ready-ren}

-- the terms for indices are ready
abbrev pub AllReady : (ℕ → Term) → Type 0
AllReady s = (i : ℕ) → ready (s i) ≡ true

pub ready-under : (s : ℕ → Term) → AllReady s → AllReady (under s)
ready-under s h zero = ready-bound 0
ready-under s h (suc n) = ready-ren next (s n) ∙ h n

pub ready-first : (a : Term) → ready a ≡ true → AllReady (first a)
ready-first a h zero = h
ready-first a h (suc n) = ready-bound n

-- a term that is no abstraction takes an argument as it is
pub apply_ready : (f a : Term) → ready f ≡ true → apply f a ≡ App f a
apply_ready (Lam b) a h = absurd (let e : false ≡ true = sym (ready-lam b) ∙ h in cc)
apply_ready (At h') a h = refl
apply_ready (App f b) a h = refl

sub-first : (s : ℕ → Term) (a : Term) (i : ℕ) → sub s (first a i) ≡ sub (first (sub s a)) (under s i)
sub-first s a zero = refl
sub-first s a (suc n) = sym (sub-ren (first (sub s a)) next (s n) ∙ sub_id (s n))

pub sub-opened : (s : ℕ → Term) (a b : Term) → sub s (sub (first a) b) ≡ sub (first (sub s a)) (sub (under s) b)
sub-opened s a b = sub-sub s (first a) b ∙ ap (λ r. sub r b) (fun_ext (sub-first s a)) ∙ sym (sub-sub (first (sub s a)) (under s) b)

pub sub-apply : (s : ℕ → Term) → AllReady s → (f a : Term) → sub s (apply f a) ≡ apply (sub s f) (sub s a)
sub-apply s h (Lam b) a = go (ready a) refl
  where
    go : (r : Bool) → ready a ≡ r → sub s (cond r (sub (first a) b) (App (Lam b) a)) ≡ cond (ready (sub s a)) (sub (first (sub s a)) (sub (under s) b)) (App (sub s (Lam b)) (sub s a))
    go true e = rw (ready-sub s h a ∙ e) (sub-opened s a b)
    go false e = rw (ready-sub s h a ∙ e) refl
sub-apply s h (At (Bound i)) a = sym (apply_ready (s i) (sub s a) (h i))
sub-apply s h (At (Con c)) a = refl
sub-apply s h (At _) a = refl
sub-apply s h (App f b) a = refl
