-- A variable that doesn't occur.
use Rattle.std.proofs.Common.{◌≡◌, ℕ, zero, suc, Bool, true, false, ◌||◌, refl, ap, ap₂, ◌∙◌}
use mathlib.Core.Path.{fun_ext}
use Rattle.ref_terms.specs.terms.Term.{Term, Lam, At, App, Head, Con, Int, Str, Name, Bound, Var}
use Rattle.ref_terms.specs.terms.Index.{shift}
use Rattle.ref_terms.specs.terms.Eta.{lam, lam_of}
use Rattle.ref_terms.specs.terms.Apply.{apply, below, fill}
use Rattle.ref_terms.specs.terms.Built.{IsBuilt, IsStuck}
use Rattle.ref_terms.specs.terms.Occurs.{is_variable, occurs}
use Rattle.ref_terms.specs.terms.Instance.{only, inst}

-- rebuilding what is built changes nothing
below_at : (h : Head) → below (λ k. At k) h ≡ At h
below_at (Bound zero) = refl
below_at (Bound (suc n)) = refl
below_at (Con c) = refl
below_at _ = refl

apply_stuck : (f a : Term) → IsStuck f a → apply f a ≡ App f a
apply_stuck (Lam b) a h = rw h refl
apply_stuck (At k) a h = refl
apply_stuck (App f b) a h = refl

pub fill_at : (t : Term) → IsBuilt t → fill (λ h. At h) t ≡ t
fill_at (Lam b) w = ap lam (ap (λ r. fill r b) (fun_ext below_at) ∙ fill_at b w.0) ∙ ap (λ o. lam_of o b) w.1
fill_at (At h) w = refl
fill_at (App f a) w = ap₂ apply (fill_at f w.0) (fill_at a w.1) ∙ apply_stuck f a w.2

-- two replacements that agree on the heads other than a variable that doesn't occur
or_left : (a b : Bool) → (a || b) ≡ false → a ≡ false
or_left false b e = refl
or_left true b e = e

or_right : (a b : Bool) → (a || b) ≡ false → b ≡ false
or_right false b e = e
or_right true b e = absurd (let k : true ≡ false = e in cc)

unfoldable pub AgreeBut : ℕ → (Head → Term) → (Head → Term) → Type 0
AgreeBut v r q = (h : Head) → is_variable v h ≡ false → r h ≡ q h

below-agree : (v : ℕ) (r q : Head → Term) → AgreeBut v r q → AgreeBut v (below r) (below q)
unfolding AgreeBut
below-agree v r q e (Bound zero) k = refl
below-agree v r q e (Bound (suc n)) k = ap shift (e (Bound n) refl)
below-agree v r q e (Con c) k = ap shift (e (Con c) refl)
below-agree v r q e (Int c) k = ap shift (e (Int c) refl)
below-agree v r q e (Str c) k = ap shift (e (Str c) refl)
below-agree v r q e (Name c) k = ap shift (e (Name c) refl)
below-agree v r q e (Var c) k = ap shift (e (Var c) k)

pub fill-agree : (v : ℕ) (r q : Head → Term) → AgreeBut v r q → (t : Term) → occurs v t ≡ false → fill r t ≡ fill q t
unfolding AgreeBut
fill-agree v r q e (Lam b) n = ap lam (fill-agree v (below r) (below q) (below-agree v r q e) b n)
fill-agree v r q e (At h) n = e h n
fill-agree v r q e (App f a) n = ap₂ apply (fill-agree v r q e f (or_left _ _ n)) (fill-agree v r q e a (or_right _ _ n))

pub inst_absent : (v : ℕ) (u t : Term) → IsBuilt t → occurs v t ≡ false → inst v u t ≡ t
unfolding AgreeBut
inst_absent v u t w n = fill-agree v (only v u) (λ h. At h) (λ h k. rw k refl) t n ∙ fill_at t w
