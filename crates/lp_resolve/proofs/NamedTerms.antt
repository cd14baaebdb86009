-- The symbols of terms that are applied, abstracted and opened.
use Rattle.std.proofs.Common.{◌≡◌, ◌∙◌, ℕ, zero, suc, ◌<◌, ◌≤◌, Bool, true, false, cond, List, [], ◌∷◌, Option, Some, None, refl, arith}
use Rattle.std.specs.Prelude.{IfSome}
use Rattle.std.specs.Option.{option_map}
use Rattle.ref_terms.specs.terms.Term.{Head, Term, Con, Int, Str, Name, Bound, Var, Lam, At, App}
use Rattle.ref_terms.specs.terms.Index.{ren, ren_head, up, next, shift, sub, sub_head, under, first}
use Rattle.ref_terms.specs.terms.Eta.{partial, partial_head, up_partial, both, previous, lower, on_index, eta, lam, lam_of}
use Rattle.ref_terms.specs.terms.Text.{bare, text_apply, text_apply_all}
use Rattle.lp_resolve.specs.inside.Named.{IsHeadNamed, IsNamed}

-- more symbols
pub named-more : (n m : ℕ) (t : Term) → n ≤ m → IsNamed n t → IsNamed m t
named-more n m (Lam b) h w = named-more n m b h w
named-more n m (App f a) h w = (named-more n m f h w.0, named-more n m a h w.1)
named-more n m (At (Con c)) h w = omega arith
named-more n m (At (Str s)) h w = omega arith
named-more n m (At (Int z)) h w = tt
named-more n m (At (Name x)) h w = tt
named-more n m (At (Bound i)) h w = tt
named-more n m (At (Var v)) h w = tt

-- bound names renamed
named-ren : (n : ℕ) (f : ℕ → ℕ) (t : Term) → IsNamed n t → IsNamed n (ren f t)
named-ren n f (Lam b) w = named-ren n (up f) b w
named-ren n f (App g a) w = (named-ren n f g w.0, named-ren n f a w.1)
named-ren n f (At (Con c)) w = w
named-ren n f (At (Str s)) w = w
named-ren n f (At (Int z)) w = tt
named-ren n f (At (Name x)) w = tt
named-ren n f (At (Bound i)) w = tt
named-ren n f (At (Var v)) w = tt

-- terms put in for bound names
named-sub : (n : ℕ) (s : ℕ → Term) → ((i : ℕ) → IsNamed n (s i)) → (t : Term) → IsNamed n t → IsNamed n (sub s t)
named-sub n s h (Lam b) w = named-sub n (under s) deeper b w where
  deeper : (i : ℕ) → IsNamed n (under s i)
  deeper zero = tt
  deeper (suc i) = named-ren n next (s i) (h i)
named-sub n s h (App g a) w = (named-sub n s h g w.0, named-sub n s h a w.1)
named-sub n s h (At (Con c)) w = w
named-sub n s h (At (Str c)) w = w
named-sub n s h (At (Int z)) w = tt
named-sub n s h (At (Name x)) w = tt
named-sub n s h (At (Bound i)) w = h i
named-sub n s h (At (Var v)) w = tt

-- an application
pub named-apply : (n : ℕ) (f a : Term) → IsNamed n f → IsNamed n a → IsNamed n (text_apply f a)
named-apply n (At h) a wf wa = (wf, wa)
named-apply n (App f b) a wf wa = (wf, wa)
named-apply n (Lam b) a wf wa = at (bare a) where
  opened : (i : ℕ) → IsNamed n (first a i)
  opened zero = wa
  opened (suc i) = tt

  at : (r : Bool) → IsNamed n (cond r (sub (first a) b) (App (Lam b) a))
  at true = named-sub n (first a) opened b wf
  at false = (wf, wa)

-- bound names renamed, where each has an image
named-partial : (n : ℕ) (p : ℕ → Option ℕ) (t : Term) → IsNamed n t → IfSome (partial p t) (IsNamed n)
named-partial n p (Lam b) w = at (partial (up_partial p) b) (named-partial n (up_partial p) b w) where
  at : (o : Option Term) → IfSome o (IsNamed n) → IfSome (option_map Lam o) (IsNamed n)
  at None k = tt
  at (Some u) k = k
named-partial n p (App g a) w = at (partial p g) (partial p a) (named-partial n p g w.0) (named-partial n p a w.1) where
  at : (x y : Option Term) → IfSome x (IsNamed n) → IfSome y (IsNamed n) → IfSome (both x y) (IsNamed n)
  at None y k l = tt
  at (Some u) None k l = tt
  at (Some u) (Some v) k l = (k, l)
named-partial n p (At (Con c)) w = w
named-partial n p (At (Str s)) w = w
named-partial n p (At (Int z)) w = tt
named-partial n p (At (Name x)) w = tt
named-partial n p (At (Bound i)) w = at (p i) where
  at : (o : Option ℕ) → IfSome (option_map (λ j. At (Bound j)) o) (IsNamed n)
  at None = tt
  at (Some j) = tt
named-partial n p (At (Var v)) w = tt

-- an abstraction
pub named-lam : (n : ℕ) (b : Term) → IsNamed n b → IsNamed n (lam b)
named-lam n b w = made (eta b) (contracted b w) where
  kept : (a : Term) (o : Option Term) → IfSome o (IsNamed n) → IfSome (on_index a o) (IsNamed n)
  kept (At (Bound zero)) o k = k
  kept (At (Bound (suc i))) o k = tt
  kept (At (Con c)) o k = tt
  kept (At (Int z)) o k = tt
  kept (At (Str s)) o k = tt
  kept (At (Name x)) o k = tt
  kept (At (Var v)) o k = tt
  kept (Lam c) o k = tt
  kept (App g a) o k = tt

  contracted : (t : Term) → IsNamed n t → IfSome (eta t) (IsNamed n)
  contracted (Lam c) v = tt
  contracted (At h) v = tt
  contracted (App f a) v = kept a (lower f) (named-partial n previous f v.0)

  made : (o : Option Term) → IfSome o (IsNamed n) → IsNamed n (lam_of o b)
  made None k = w
  made (Some t) k = k
