-- Variables and bound names of terms that are applied, abstracted and opened.
use Rattle.std.proofs.Common.{◌≡◌, ◌∙◌, ℕ, zero, suc, ◌+◌, ◌<◌, ◌≤◌, Bool, true, false, cond, List, [], ◌∷◌, ◌++◌, Option, Some, None, refl, ap, sym, subst, arith}
use Rattle.std.specs.Prelude.{IfSome}
use Rattle.std.specs.Option.{option_map}
use Rattle.ref_terms.specs.terms.Term.{Head, Term, Con, Int, Str, Name, Bound, Var, Lam, At, App}
use Rattle.ref_terms.specs.terms.Index.{ren, ren_head, up, next, shift, sub, sub_head, under, first}
use Rattle.ref_terms.specs.terms.Eta.{partial, partial_head, up_partial, both, previous, lower, on_index, eta, lam, lam_of}
use Rattle.ref_terms.specs.terms.Text.{bare, text_apply, text_apply_all}
use Rattle.lp_resolve.specs.Trees.{IsHeadWithin, IsWithin}

-- more variables
pub within-more : (n m d : ℕ) (t : Term) → n ≤ m → IsWithin n d t → IsWithin m d t
within-more n m d (Lam b) h w = within-more n m (suc d) b h w
within-more n m d (App f a) h w = (within-more n m d f h w.0, within-more n m d a h w.1)
within-more n m d (At (Con c)) h w = tt
within-more n m d (At (Int z)) h w = tt
within-more n m d (At (Str s)) h w = tt
within-more n m d (At (Name x)) h w = absurd w
within-more n m d (At (Bound i)) h w = w
within-more n m d (At (Var v)) h w = omega arith

-- bound names renamed
pub within-ren : (n d e : ℕ) (f : ℕ → ℕ) → ((i : ℕ) → i < d → f i < e) → (t : Term) → IsWithin n d t → IsWithin n e (ren f t)
within-ren n d e f h (Lam b) w = within-ren n (suc d) (suc e) (up f) deeper b w where
  deeper : (i : ℕ) → i < suc d → up f i < suc e
  deeper zero lt = omega arith
  deeper (suc i) lt = omega (arith, h i (omega arith))
within-ren n d e f h (App g a) w = (within-ren n d e f h g w.0, within-ren n d e f h a w.1)
within-ren n d e f h (At (Con c)) w = tt
within-ren n d e f h (At (Int z)) w = tt
within-ren n d e f h (At (Str s)) w = tt
within-ren n d e f h (At (Name x)) w = absurd w
within-ren n d e f h (At (Bound i)) w = h i w
within-ren n d e f h (At (Var v)) w = w

-- terms put in for bound names
pub within-sub : (n d e : ℕ) (s : ℕ → Term) → ((i : ℕ) → i < d → IsWithin n e (s i)) → (t : Term) → IsWithin n d t → IsWithin n e (sub s t)
within-sub n d e s h (Lam b) w = within-sub n (suc d) (suc e) (under s) deeper b w where
  deeper : (i : ℕ) → i < suc d → IsWithin n (suc e) (under s i)
  deeper zero lt = let below : 0 < suc e = omega arith in below
  deeper (suc i) lt = within-ren n e (suc e) next (λ j k. omega arith) (s i) (h i (omega arith))
within-sub n d e s h (App g a) w = (within-sub n d e s h g w.0, within-sub n d e s h a w.1)
within-sub n d e s h (At (Con c)) w = tt
within-sub n d e s h (At (Int z)) w = tt
within-sub n d e s h (At (Str c)) w = tt
within-sub n d e s h (At (Name x)) w = absurd w
within-sub n d e s h (At (Bound i)) w = h i w
within-sub n d e s h (At (Var v)) w = w

-- an application
pub within-apply : (n d : ℕ) (f a : Term) → IsWithin n d f → IsWithin n d a → IsWithin n d (text_apply f a)
within-apply n d (At h) a wf wa = (wf, wa)
within-apply n d (App f b) a wf wa = (wf, wa)
within-apply n d (Lam b) a wf wa = at (bare a) where
  opened : (i : ℕ) → i < suc d → IsWithin n d (first a i)
  opened zero lt = wa
  opened (suc i) lt = let below : i < d = omega arith in below

  at : (r : Bool) → IsWithin n d (cond r (sub (first a) b) (App (Lam b) a))
  at true = within-sub n (suc d) d (first a) opened b wf
  at false = (wf, wa)

-- a term whose bound names are renamed, where each has an image
pub within-partial : (n d e : ℕ) (p : ℕ → Option ℕ) → ((i : ℕ) → i < d → IfSome (p i) (λ j. j < e)) → (t : Term) → IsWithin n d t → IfSome (partial p t) (IsWithin n e)
within-partial n d e p h (Lam b) w = at (partial (up_partial p) b) (within-partial n (suc d) (suc e) (up_partial p) deeper b w) where
  deeper : (i : ℕ) → i < suc d → IfSome (up_partial p i) (λ j. j < suc e)
  deeper zero lt = let below : 0 < suc e = omega arith in below
  deeper (suc i) lt = moved (p i) (h i (omega arith)) where
    moved : (o : Option ℕ) → IfSome o (λ j. j < e) → IfSome (option_map next o) (λ j. j < suc e)
    moved None k = tt
    moved (Some j) k = let below : suc j < suc e = omega arith in below

  at : (o : Option Term) → IfSome o (IsWithin n (suc e)) → IfSome (option_map Lam o) (IsWithin n e)
  at None k = tt
  at (Some u) k = k
within-partial n d e p h (App g a) w = at (partial p g) (partial p a) (within-partial n d e p h g w.0) (within-partial n d e p h a w.1) where
  at : (x y : Option Term) → IfSome x (IsWithin n e) → IfSome y (IsWithin n e) → IfSome (both x y) (IsWithin n e)
  at None y k l = tt
  at (Some u) None k l = tt
  at (Some u) (Some v) k l = (k, l)
within-partial n d e p h (At (Con c)) w = tt
within-partial n d e p h (At (Int z)) w = tt
within-partial n d e p h (At (Str s)) w = tt
within-partial n d e p h (At (Name x)) w = absurd w
within-partial n d e p h (At (Bound i)) w = at (p i) (h i w) where
  at : (o : Option ℕ) → IfSome o (λ j. j < e) → IfSome (option_map (λ j. At (Bound j)) o) (IsWithin n e)
  at None k = tt
  at (Some j) k = k
within-partial n d e p h (At (Var v)) w = w

-- a term one abstraction further out
within-lower : (n d : ℕ) (t : Term) → IsWithin n (suc d) t → IfSome (lower t) (IsWithin n d)
within-lower n d t w = within-partial n (suc d) d previous at t w where
  at : (i : ℕ) → i < suc d → IfSome (previous i) (λ j. j < d)
  at zero lt = tt
  at (suc i) lt = let below : i < d = omega arith in below

-- an abstraction
pub within-lam : (n d : ℕ) (b : Term) → IsWithin n (suc d) b → IsWithin n d (lam b)
within-lam n d b w = made (eta b) (contracted b w) where
  kept : (a : Term) (o : Option Term) → IfSome o (IsWithin n d) → IfSome (on_index a o) (IsWithin n d)
  kept (At (Bound zero)) o k = k
  kept (At (Bound (suc i))) o k = tt
  kept (At (Con c)) o k = tt
  kept (At (Int z)) o k = tt
  kept (At (Str s)) o k = tt
  kept (At (Name x)) o k = tt
  kept (At (Var v)) o k = tt
  kept (Lam c) o k = tt
  kept (App g a) o k = tt

  contracted : (t : Term) → IsWithin n (suc d) t → IfSome (eta t) (IsWithin n d)
  contracted (Lam c) v = tt
  contracted (At h) v = tt
  contracted (App f a) v = kept a (lower f) (within-lower n d f v.0)

  made : (o : Option Term) → IfSome o (IsWithin n d) → IsWithin n d (lam_of o b)
  made None k = w
  made (Some t) k = k
