-- How many variables stand in terms that are applied, abstracted and opened.
use Rattle.std.proofs.Common.{◌≡◌, ◌∙◌, ℕ, zero, suc, ◌+◌, Bool, true, false, cond, List, [], ◌∷◌, Option, Some, None, refl, ap, sym, arith}
use Rattle.std.specs.Prelude.{IfSome}
use Rattle.std.specs.Option.{option_map}
use Rattle.ref_terms.specs.terms.Term.{Head, Term, Con, Int, Str, Name, Bound, Var, Lam, At, App}
use Rattle.ref_terms.specs.terms.Index.{ren, ren_head, up, next, shift, sub, sub_head, under, first}
use Rattle.ref_terms.specs.terms.Eta.{partial, partial_head, up_partial, both, previous, lower, on_index, eta, lam, lam_of}
use Rattle.ref_terms.specs.terms.Text.{bare, text_apply, text_apply_all}

-- how many places of variables there are
abbrev pub count_head : Head → ℕ
count_head (Var v) = 1
count_head (Con c) = 0
count_head (Int z) = 0
count_head (Str s) = 0
count_head (Name n) = 0
count_head (Bound i) = 0

-- so in a term
abbrev pub count : Term → ℕ
count (Lam b) = count b
count (At h) = count_head h
count (App f a) = count f + count a

-- so in terms
abbrev pub count_all : List Term → ℕ
count_all [] = 0
count_all (t ∷ ts) = count t + count_all ts

-- bound names renamed
count-ren : (f : ℕ → ℕ) (t : Term) → count (ren f t) ≡ count t
count-ren f (Lam b) = count-ren (up f) b
count-ren f (App g a) = omega (arith, count-ren f g, count-ren f a)
count-ren f (At (Con c)) = refl
count-ren f (At (Int z)) = refl
count-ren f (At (Str s)) = refl
count-ren f (At (Name n)) = refl
count-ren f (At (Bound i)) = refl
count-ren f (At (Var v)) = refl

-- terms without variables put in for bound names
count-sub : (s : ℕ → Term) → ((i : ℕ) → count (s i) ≡ 0) → (t : Term) → count (sub s t) ≡ count t
count-sub s h (Lam b) = count-sub (under s) deeper b where
  deeper : (i : ℕ) → count (under s i) ≡ 0
  deeper zero = refl
  deeper (suc i) = count-ren next (s i) ∙ h i
count-sub s h (App g a) = omega (arith, count-sub s h g, count-sub s h a)
count-sub s h (At (Con c)) = refl
count-sub s h (At (Int z)) = refl
count-sub s h (At (Str c)) = refl
count-sub s h (At (Name n)) = refl
count-sub s h (At (Bound i)) = h i
count-sub s h (At (Var v)) = refl

-- a bare term has none
count-bare : (a : Term) → bare a ≡ true → count a ≡ 0
count-bare (Lam b) e = absurd (let bad = e in cc)
count-bare (App f a) e = absurd (let bad = e in cc)
count-bare (At (Name n)) e = refl
count-bare (At (Bound i)) e = refl
count-bare (At (Con c)) e = absurd (let bad = e in cc)
count-bare (At (Int z)) e = absurd (let bad = e in cc)
count-bare (At (Str s)) e = absurd (let bad = e in cc)
count-bare (At (Var v)) e = absurd (let bad = e in cc)

-- an application
pub count-apply : (f a : Term) → count (text_apply f a) ≡ count f + count a
count-apply (At h) a = refl
count-apply (App f b) a = refl
count-apply (Lam b) a = at (bare a) refl where
  opened : count a ≡ 0 → (i : ℕ) → count (first a i) ≡ 0
  opened e zero = e
  opened e (suc i) = refl

  at : (r : Bool) → bare a ≡ r → count (cond r (sub (first a) b) (App (Lam b) a)) ≡ count b + count a
  at true e = omega (arith, count-sub (first a) (opened (count-bare a e)) b, count-bare a e)
  at false e = refl

-- an application to terms
pub count-apply_all : (f : Term) (ts : List Term) → count (text_apply_all f ts) ≡ count f + count_all ts
count-apply_all f [] = omega arith
count-apply_all f (t ∷ ts) = omega (arith, count-apply_all (text_apply f t) ts, count-apply f t)

-- bound names renamed, where each has an image
count-partial : (p : ℕ → Option ℕ) (t : Term) → IfSome (partial p t) (λ u. count u ≡ count t)
count-partial p (Lam b) = at (partial (up_partial p) b) (count-partial (up_partial p) b) where
  at : (o : Option Term) → IfSome o (λ u. count u ≡ count b) → IfSome (option_map Lam o) (λ u. count u ≡ count b)
  at None k = tt
  at (Some u) k = k
count-partial p (App g a) = at (partial p g) (partial p a) (count-partial p g) (count-partial p a) where
  at : (x y : Option Term) → IfSome x (λ u. count u ≡ count g) → IfSome y (λ u. count u ≡ count a) → IfSome (both x y) (λ u. count u ≡ count g + count a)
  at None y k l = tt
  at (Some u) None k l = tt
  at (Some u) (Some v) k l = let all : count u + count v ≡ count g + count a = omega (arith, k, l) in all
count-partial p (At (Con c)) = refl
count-partial p (At (Int z)) = refl
count-partial p (At (Str s)) = refl
count-partial p (At (Name n)) = refl
count-partial p (At (Bound i)) = at (p i) where
  at : (o : Option ℕ) → IfSome (option_map (λ j. At (Bound j)) o) (λ u. count u ≡ 0)
  at None = tt
  at (Some j) = refl
count-partial p (At (Var v)) = refl

-- an abstraction
pub count-lam : (b : Term) → count (lam b) ≡ count b
count-lam b = made (eta b) (contracted b) where
  kept : (a f : Term) (o : Option Term) → IfSome o (λ u. count u ≡ count f) → IfSome (on_index a o) (λ u. count u ≡ count f + count a)
  kept (At (Bound zero)) f None k = tt
  kept (At (Bound zero)) f (Some u) k = let all : count u ≡ count f + 0 = omega (arith, k) in all
  kept (At (Bound (suc i))) f o k = tt
  kept (At (Con c)) f o k = tt
  kept (At (Int z)) f o k = tt
  kept (At (Str s)) f o k = tt
  kept (At (Name x)) f o k = tt
  kept (At (Var v)) f o k = tt
  kept (Lam c) f o k = tt
  kept (App g a) f o k = tt

  contracted : (t : Term) → IfSome (eta t) (λ u. count u ≡ count t)
  contracted (Lam c) = tt
  contracted (At h) = tt
  contracted (App f a) = kept a f (lower f) (count-partial previous f)

  made : (o : Option Term) → IfSome o (λ u. count u ≡ count b) → count (lam_of o b) ≡ count b
  made None k = refl
  made (Some t) k = k
