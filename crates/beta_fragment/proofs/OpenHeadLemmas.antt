-- Heads that have a property, in what is built of terms.
use Rattle.std.proofs.Common.{◌≡◌, ℕ, zero, suc, Bool, true, false, cond, Option, Some, None, IfSome, subst}
use Rattle.level_terms.specs.Laws.{IsPlace, ArePlaces}
use Rattle.level_terms.specs.Graph.{Graph}
use Rattle.level_terms.specs.Reading.{levels}
use Rattle.ref_terms.specs.terms.Term.{Head, Con, Int, Str, Name, Bound, Var, Term, Lam, At, App}
use Rattle.ref_terms.specs.terms.Index.{ren, up, next, shift, under, sub, first}
use Rattle.ref_terms.specs.terms.Eta.{eta, lam, lam_of}
use Rattle.ref_terms.specs.terms.Ready.{ready}
use Rattle.ref_terms.specs.terms.Apply.{apply}
use Rattle.ref_terms.specs.unification.Spine.{apply_all}
use Rattle.ref_terms.specs.lemmas.EtaLemmas.{eta-some}
use Rattle.beta_fragment.specs.Quoted.{AllHeads, IsOpenHead}

module _ (p : Head → Type 0) where
  -- renaming indices
  pub heads-ren : (f : ℕ → ℕ) (t : Term) → AllHeads p t → AllHeads p (ren f t)
  heads-ren f (Lam b) w = heads-ren (up f) b w
  heads-ren f (At (Con c)) w = w
  heads-ren f (At (Int n)) w = w
  heads-ren f (At (Str s)) w = w
  heads-ren f (At (Name n)) w = w
  heads-ren f (At (Bound i)) w = tt
  heads-ren f (At (Var v)) w = w
  heads-ren f (App g a) w = (heads-ren f g w.0, heads-ren f a w.1)

  pub heads-unren : (f : ℕ → ℕ) (t : Term) → AllHeads p (ren f t) → AllHeads p t
  heads-unren f (Lam b) w = heads-unren (up f) b w
  heads-unren f (At (Con c)) w = w
  heads-unren f (At (Int n)) w = w
  heads-unren f (At (Str s)) w = w
  heads-unren f (At (Name n)) w = w
  heads-unren f (At (Bound i)) w = tt
  heads-unren f (At (Var v)) w = w
  heads-unren f (App g a) w = (heads-unren f g w.0, heads-unren f a w.1)

  -- terms in the place of indices
  heads-under : (s : ℕ → Term) → ((i : ℕ) → AllHeads p (s i)) → (i : ℕ) → AllHeads p (under s i)
  heads-under s h zero = tt
  heads-under s h (suc n) = heads-ren next (s n) (h n)

  pub heads-sub : (s : ℕ → Term) → ((i : ℕ) → AllHeads p (s i)) → (t : Term) → AllHeads p t → AllHeads p (sub s t)
  heads-sub s h (Lam b) w = heads-sub (under s) (heads-under s h) b w
  heads-sub s h (At (Con c)) w = w
  heads-sub s h (At (Int n)) w = w
  heads-sub s h (At (Str c)) w = w
  heads-sub s h (At (Name n)) w = w
  heads-sub s h (At (Bound i)) w = h i
  heads-sub s h (At (Var v)) w = w
  heads-sub s h (App g a) w = (heads-sub s h g w.0, heads-sub s h a w.1)

  heads-first : (a : Term) → AllHeads p a → (i : ℕ) → AllHeads p (first a i)
  heads-first a w zero = w
  heads-first a w (suc n) = tt

  -- application
  pub heads-apply : (f a : Term) → AllHeads p f → AllHeads p a → AllHeads p (apply f a)
  heads-apply (Lam b) a v w = go (ready a)
    where
      go : (r : Bool) → AllHeads p (cond r (sub (first a) b) (App (Lam b) a))
      go true = heads-sub (first a) (heads-first a w) b v
      go false = (v, w)
  heads-apply (At h) a v w = (v, w)
  heads-apply (App f b) a v w = (v, w)

  -- abstraction
  heads-lam_of : (o : Option Term) (b : Term) → IfSome o (λ u. b ≡ App (shift u) (At (Bound zero))) → AllHeads p b → AllHeads p (lam_of o b)
  heads-lam_of None b e w = w
  heads-lam_of (Some u) b e w = heads-unren next u (subst (AllHeads p) e w).0

  pub heads-lam : (b : Term) → AllHeads p b → AllHeads p (lam b)
  heads-lam b w = heads-lam_of (eta b) b (eta-some b) w

-- names and indices
pub place-open : (g : Graph) (t : Term) → IsPlace t → AllHeads (IsOpenHead g) t
place-open g (At (Name n)) w = tt
place-open g (At (Bound i)) w = tt
place-open g (At (Con c)) w = absurd w
place-open g (At (Int n)) w = absurd w
place-open g (At (Str s)) w = absurd w
place-open g (At (Var v)) w = absurd w
place-open g (Lam b) w = absurd w
place-open g (App f a) w = absurd w

-- a head before levels
pub levels-open : (g : Graph) (d : ℕ) (env : ℕ → Term) (t : Term) → ArePlaces env → AllHeads (IsOpenHead g) t → AllHeads (IsOpenHead g) (apply_all t (levels d env))
levels-open g zero env t p w = w
levels-open g (suc d) env t p w = levels-open g d (λ i. env (suc i)) (apply t (env 0)) (λ i. p (suc i)) (heads-apply (IsOpenHead g) t (env 0) w (place-open g (env 0) (p 0)))
