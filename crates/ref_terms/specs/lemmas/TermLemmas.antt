-- Renaming and replacing bound indices: two in a row are one.
use Rattle.std.proofs.Common.{◌≡◌, ℕ, zero, suc, refl, sym, ap, ap₂, ◌∙◌}
use mathlib.Core.Path.{fun_ext}
use Rattle.ref_terms.specs.terms.Term.{Term, Lam, At, App, Head, Con, Bound}
use Rattle.ref_terms.specs.terms.Index.{ren, ren_head, up, next, under, sub}

pub up-up : (f g : ℕ → ℕ) (n : ℕ) → up g (up f n) ≡ up (λ n. g (f n)) n
up-up f g zero = refl
up-up f g (suc n) = refl

pub ren_head-ren_head : (f g : ℕ → ℕ) (h : Head) → ren_head g (ren_head f h) ≡ ren_head (λ n. g (f n)) h
ren_head-ren_head f g (Con c) = refl
ren_head-ren_head f g _ = refl

pub ren-ren : (f g : ℕ → ℕ) (t : Term) → ren g (ren f t) ≡ ren (λ n. g (f n)) t
ren-ren f g (Lam b) = ap Lam (ren-ren (up f) (up g) b ∙ ap (λ h. ren h b) (fun_ext (up-up f g)))
ren-ren f g (At h) = ap At (ren_head-ren_head f g h)
ren-ren f g (App t a) = ap₂ App (ren-ren f g t) (ren-ren f g a)

pub up_id : (n : ℕ) → up (λ m. m) n ≡ n
up_id zero = refl
up_id (suc n) = refl

pub ren_id : (t : Term) → ren (λ n. n) t ≡ t
ren_id (Lam b) = ap Lam (ap (λ h. ren h b) (fun_ext up_id) ∙ ren_id b)
ren_id (At (Con c)) = refl
ren_id (At _) = refl
ren_id (App t a) = ap₂ App (ren_id t) (ren_id a)

-- a renaming is a substitution
pub under_up : (f : ℕ → ℕ) (n : ℕ) → under (λ i. At (Bound (f i))) n ≡ At (Bound (up f n))
under_up f zero = refl
under_up f (suc n) = refl

pub ren_sub : (f : ℕ → ℕ) (t : Term) → ren f t ≡ sub (λ i. At (Bound (f i))) t
ren_sub f (Lam b) = ap Lam (ren_sub (up f) b ∙ ap (λ s. sub s b) (sym (fun_ext (under_up f))))
ren_sub f (At (Con c)) = refl
ren_sub f (At _) = refl
ren_sub f (App t a) = ap₂ App (ren_sub f t) (ren_sub f a)

-- a substitution after a renaming
pub under-up : (s : ℕ → Term) (f : ℕ → ℕ) (n : ℕ) → under s (up f n) ≡ under (λ i. s (f i)) n
under-up s f zero = refl
under-up s f (suc n) = refl

pub sub-ren : (s : ℕ → Term) (f : ℕ → ℕ) (t : Term) → sub s (ren f t) ≡ sub (λ i. s (f i)) t
sub-ren s f (Lam b) = ap Lam (sub-ren (under s) (up f) b ∙ ap (λ h. sub h b) (fun_ext (under-up s f)))
sub-ren s f (At (Con c)) = refl
sub-ren s f (At _) = refl
sub-ren s f (App t a) = ap₂ App (sub-ren s f t) (sub-ren s f a)

-- a renaming after a substitution
pub ren-under : (f : ℕ → ℕ) (s : ℕ → Term) (n : ℕ) → ren (up f) (under s n) ≡ under (λ i. ren f (s i)) n
ren-under f s zero = refl
ren-under f s (suc n) = ren-ren next (up f) (s n) ∙ sym (ren-ren f next (s n))

pub ren-sub : (f : ℕ → ℕ) (s : ℕ → Term) (t : Term) → ren f (sub s t) ≡ sub (λ i. ren f (s i)) t
ren-sub f s (Lam b) = ap Lam (ren-sub (up f) (under s) b ∙ ap (λ h. sub h b) (fun_ext (ren-under f s)))
ren-sub f s (At (Con c)) = refl
ren-sub f s (At _) = refl
ren-sub f s (App t a) = ap₂ App (ren-sub f s t) (ren-sub f s a)

pub sub-under : (r s : ℕ → Term) (n : ℕ) → sub (under r) (under s n) ≡ under (λ i. sub r (s i)) n
sub-under r s zero = refl
sub-under r s (suc n) = sub-ren (under r) next (s n) ∙ sym (ren-sub next r (s n))

pub sub-sub : (r s : ℕ → Term) (t : Term) → sub r (sub s t) ≡ sub (λ i. sub r (s i)) t
sub-sub r s (Lam b) = ap Lam (sub-sub (under r) (under s) b ∙ ap (λ h. sub h b) (fun_ext (sub-under r s)))
sub-sub r s (At (Con c)) = refl
sub-sub r s (At _) = refl
sub-sub r s (App t a) = ap₂ App (sub-sub r s t) (sub-sub r s a)

pub sub_id : (t : Term) → sub (λ i. At (Bound i)) t ≡ t
sub_id t = sym (ren_sub (λ i. i) t) ∙ ren_id t
