-- Lowering and η.
use Rattle.std.proofs.Common.{◌≡◌, ℕ, zero, suc, refl, sym, ap, ap₂, ◌∙◌, Option, Some, None, option_map, IfSome}
use mathlib.Core.Path.{fun_ext}
use Rattle.ref_terms.specs.terms.Term.{Term, Lam, At, App, Con, Bound}
use Rattle.ref_terms.specs.terms.Index.{ren, up, next, shift, under, sub}
use Rattle.ref_terms.specs.terms.Eta.{up_partial, both, partial, previous, lower, on_index, eta, lam, lam_of}

option_map-option_map : {A B C : Type 0} (g : B → C) (f : A → B) (o : Option A) → option_map g (option_map f o) ≡ option_map (λ x. g (f x)) o
option_map-option_map g f None = refl
option_map-option_map g f (Some x) = refl

map_both : (h : Term → Term) (f g : Term → Term) (e : (a b : Term) → h (App a b) ≡ App (f a) (g b)) (x y : Option Term) → option_map h (both x y) ≡ both (option_map f x) (option_map g y)
map_both h f g e None y = refl
map_both h f g e (Some a) None = refl
map_both h f g e (Some a) (Some b) = ap Some (e a b)

-- a partial renaming that is total
up_partial_some : (n : ℕ) → up_partial (λ i. Some i) n ≡ Some n
up_partial_some zero = refl
up_partial_some (suc n) = refl

pub partial_some : (t : Term) → partial (λ i. Some i) t ≡ Some t
partial_some (Lam b) = ap (option_map Lam) (ap (λ p. partial p b) (fun_ext up_partial_some) ∙ partial_some b)
partial_some (At (Con c)) = refl
partial_some (At _) = refl
partial_some (App f a) = ap₂ both (partial_some f) (partial_some a)

-- renaming a partially renamed term
up_up_partial : (g : ℕ → ℕ) (p : ℕ → Option ℕ) (n : ℕ) → option_map (up g) (up_partial p n) ≡ up_partial (λ i. option_map g (p i)) n
up_up_partial g p zero = refl
up_up_partial g p (suc n) = option_map-option_map (up g) next (p n) ∙ sym (option_map-option_map next g (p n))

pub ren-partial : (g : ℕ → ℕ) (p : ℕ → Option ℕ) (t : Term) → option_map (ren g) (partial p t) ≡ partial (λ i. option_map g (p i)) t
ren-partial g p (Lam b) =
    option_map-option_map (ren g) Lam (partial (up_partial p) b)
    ∙ sym (option_map-option_map Lam (ren (up g)) (partial (up_partial p) b))
    ∙ ap (option_map Lam) (ren-partial (up g) (up_partial p) b ∙ ap (λ q. partial q b) (fun_ext (up_up_partial g p)))
ren-partial g p (At (Bound i)) = option_map-option_map (ren g) (λ j. At (Bound j)) (p i) ∙ sym (option_map-option_map (λ j. At (Bound j)) g (p i))
ren-partial g p (At (Con c)) = refl
ren-partial g p (At _) = refl
ren-partial g p (App f a) = map_both (ren g) (ren g) (ren g) (λ x y. refl) (partial p f) (partial p a) ∙ ap₂ both (ren-partial g p f) (ren-partial g p a)

up_partial-up : (p : ℕ → Option ℕ) (f : ℕ → ℕ) (n : ℕ) → up_partial p (up f n) ≡ up_partial (λ i. p (f i)) n
up_partial-up p f zero = refl
up_partial-up p f (suc n) = refl

pub partial-ren : (p : ℕ → Option ℕ) (f : ℕ → ℕ) (t : Term) → partial p (ren f t) ≡ partial (λ i. p (f i)) t
partial-ren p f (Lam b) = ap (option_map Lam) (partial-ren (up_partial p) (up f) b ∙ ap (λ q. partial q b) (fun_ext (up_partial-up p f)))
partial-ren p f (At (Con c)) = refl
partial-ren p f (At _) = refl
partial-ren p f (App t a) = ap₂ both (partial-ren p f t) (partial-ren p f a)

pub lower-shift : (t : Term) → lower (shift t) ≡ Some t
lower-shift t = partial-ren previous next t ∙ partial_some t

-- a partial renaming after a substitution
partial-under : (q : ℕ → Option ℕ) (r s : ℕ → Term) (p : ℕ → Option ℕ) → ((i : ℕ) → partial q (r i) ≡ option_map s (p i)) → (i : ℕ) → partial (up_partial q) (under r i) ≡ option_map (under s) (up_partial p i)
partial-under q r s p e zero = refl
partial-under q r s p e (suc n) =
    partial-ren (up_partial q) next (r n) ∙ sym (ren-partial next q (r n)) ∙ ap (option_map shift) (e n)
    ∙ option_map-option_map shift s (p n) ∙ sym (option_map-option_map (under s) next (p n))

pub partial-sub : (q : ℕ → Option ℕ) (r s : ℕ → Term) (p : ℕ → Option ℕ) → ((i : ℕ) → partial q (r i) ≡ option_map s (p i)) → (t : Term) → partial q (sub r t) ≡ option_map (sub s) (partial p t)
partial-sub q r s p e (Lam b) =
    ap (option_map Lam) (partial-sub (up_partial q) (under r) (under s) (up_partial p) (partial-under q r s p e) b)
    ∙ option_map-option_map Lam (sub (under s)) (partial (up_partial p) b)
    ∙ sym (option_map-option_map (sub s) Lam (partial (up_partial p) b))
partial-sub q r s p e (At (Bound i)) = e i ∙ sym (option_map-option_map (sub s) (λ j. At (Bound j)) (p i))
partial-sub q r s p e (At (Con c)) = refl
partial-sub q r s p e (At _) = refl
partial-sub q r s p e (App f a) = ap₂ both (partial-sub q r s p e f) (partial-sub q r s p e a) ∙ sym (map_both (sub s) (sub s) (sub s) (λ x y. refl) (partial p f) (partial p a))

pub lower-under : (s : ℕ → Term) (t : Term) → lower (sub (under s) t) ≡ option_map (sub s) (lower t)
lower-under s t = partial-sub previous (under s) s previous e t
  where
    e : (i : ℕ) → lower (under s i) ≡ option_map s (previous i)
    e zero = refl
    e (suc n) = lower-shift (s n)

-- a shifted term is no index 0
on_index-shift : (t : Term) (o : Option Term) → on_index (shift t) o ≡ None
on_index-shift (At (Bound i)) o = refl
on_index-shift (At (Con c)) o = refl
on_index-shift (At _) o = refl
on_index-shift _ o = refl

pub eta-shift : (t : Term) → eta (shift t) ≡ None
eta-shift (App f a) = on_index-shift a (lower (shift f))
eta-shift (Lam b) = refl
eta-shift (At h) = refl

-- a substitution under an abstraction makes no new index 0
on_index-sub : (s : ℕ → Term) (a : Term) (o : Option Term) → on_index (sub (under s) a) (option_map (sub s) o) ≡ option_map (sub s) (on_index a o)
on_index-sub s (At (Bound zero)) o = refl
on_index-sub s (At (Bound (suc n))) o = on_index-shift (s n) (option_map (sub s) o)
on_index-sub s (At _) o = refl
on_index-sub s _ o = refl

pub eta-sub : (s : ℕ → Term) (b : Term) → eta (sub (under s) b) ≡ option_map (sub s) (eta b)
eta-sub s (App f a) = ap (on_index (sub (under s) a)) (lower-under s f) ∙ on_index-sub s a (lower f)
eta-sub s (Lam b) = refl
eta-sub s (At (Bound (suc n))) = eta-shift (s n)
eta-sub s (At (Bound zero)) = refl
eta-sub s (At _) = refl

lam_of-sub : (s : ℕ → Term) (o : Option Term) (b : Term) → sub s (lam_of o b) ≡ lam_of (option_map (sub s) o) (sub (under s) b)
lam_of-sub s None b = refl
lam_of-sub s (Some t) b = refl

pub sub-lam : (s : ℕ → Term) (b : Term) → sub s (lam b) ≡ lam (sub (under s) b)
sub-lam s b = lam_of-sub s (eta b) b ∙ sym (ap (λ o. lam_of o (sub (under s) b)) (eta-sub s b))

-- what is lowered is shifted back
abbrev pub Inverts : (ℕ → Option ℕ) → (ℕ → ℕ) → Type 0
Inverts p f = (i : ℕ) → IfSome (p i) (λ j. i ≡ f j)

map_if : {A B : Type 0} (g : A → B) (P : A → Type 0) (Q : B → Type 0) (o : Option A) → ((x : A) → P x → Q (g x)) → IfSome o P → IfSome (option_map g o) Q
map_if g P Q None h w = tt
map_if g P Q (Some x) h w = h x w

both_if : (P Q R : Term → Type 0) (o q : Option Term) → ((x y : Term) → P x → Q y → R (App x y)) → IfSome o P → IfSome q Q → IfSome (both o q) R
both_if P Q R None q h v w = tt
both_if P Q R (Some x) None h v w = tt
both_if P Q R (Some x) (Some y) h v w = h x y v w

inverts_up : (p : ℕ → Option ℕ) (f : ℕ → ℕ) → Inverts p f → Inverts (up_partial p) (up f)
inverts_up p f h zero = refl
inverts_up p f h (suc i) = map_if next (λ j. i ≡ f j) (λ j. suc i ≡ up f j) (p i) (λ x e. ap next e) (h i)

pub partial-inverts : (p : ℕ → Option ℕ) (f : ℕ → ℕ) → Inverts p f → (t : Term) → IfSome (partial p t) (λ u. t ≡ ren f u)
partial-inverts p f h (Lam b) = map_if Lam (λ c. b ≡ ren (up f) c) (λ u. Lam b ≡ ren f u) (partial (up_partial p) b) (λ c e. ap Lam e) (partial-inverts (up_partial p) (up f) (inverts_up p f h) b)
partial-inverts p f h (At (Bound i)) = map_if (λ j. At (Bound j)) (λ j. i ≡ f j) (λ u. At (Bound i) ≡ ren f u) (p i) (λ j e. ap (λ k. At (Bound k)) e) (h i)
partial-inverts p f h (At (Con c)) = refl
partial-inverts p f h (At _) = refl
partial-inverts p f h (App g a) = both_if (λ u. g ≡ ren f u) (λ u. a ≡ ren f u) (λ u. App g a ≡ ren f u) (partial p g) (partial p a) (λ x y d e. ap₂ App d e) (partial-inverts p f h g) (partial-inverts p f h a)

pub lower-some : (t : Term) → IfSome (lower t) (λ u. t ≡ shift u)
lower-some t = partial-inverts previous next previous_inverts t
  where
    previous_inverts : Inverts previous next
    previous_inverts zero = tt
    previous_inverts (suc i) = refl

-- the η-contracted body
eta_index : (f a : Term) (o : Option Term) → IfSome o (λ u. f ≡ shift u) → IfSome (on_index a o) (λ u. App f a ≡ App (shift u) (At (Bound zero)))
eta_index f (At (Bound zero)) None h = tt
eta_index f (At (Bound zero)) (Some u) h = ap (λ g. App g (At (Bound zero))) h
eta_index f (At _) o h = tt
eta_index f _ o h = tt

pub eta-some : (b : Term) → IfSome (eta b) (λ u. b ≡ App (shift u) (At (Bound zero)))
eta-some (App f a) = eta_index f a (lower f) (lower-some f)
eta-some (Lam b) = tt
eta-some (At h) = tt
