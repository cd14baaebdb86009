-- How often a head stands in a term, and how many arguments a value takes.
use Rattle.std.proofs.Common.{◌≡◌, ℕ, zero, suc, ◌+◌, ◌≤◌, Bool, true, false, cond, refl, sym, ap, ap₂, ◌∙◌, arith, Option, Some, None, IfSome}
use Rattle.ref_terms.specs.terms.Term.{Term, Lam, At, App, Head, Con, Int, Str, Name, Bound, Var}
use Rattle.ref_terms.specs.terms.Index.{ren, next, shift, up, under, sub, first}
use Rattle.ref_terms.specs.terms.Eta.{eta, lam, lam_of}
use Rattle.ref_terms.specs.terms.Ready.{ready}
use Rattle.ref_terms.specs.terms.Apply.{apply}
use Rattle.ref_terms.specs.lemmas.EtaLemmas.{eta-some}
use Rattle.ref_terms.specs.lemmas.ReadyFacts.{ready-name, ready-bound}

-- one where the test passes
abbrev pub tally : Bool → ℕ
tally true = 1
tally false = 0

-- how many heads of a term pass the test
abbrev pub count : (Head → Bool) → Term → ℕ
count p (Lam b) = count p b
count p (At h) = tally (p h)
count p (App f a) = count p f + count p a

-- no bound index passes
abbrev pub NoBound : (Head → Bool) → Type 0
NoBound p = (i : ℕ) → p (Bound i) ≡ false

module _ (p : Head → Bool) (n : NoBound p) where
  pub count-ren : (f : ℕ → ℕ) (t : Term) → count p (ren f t) ≡ count p t
  count-ren f (Lam b) = count-ren (up f) b
  count-ren f (At (Bound i)) = ap tally (n (f i) ∙ sym (n i))
  count-ren f (At (Con c)) = refl
  count-ren f (At _) = refl
  count-ren f (App g a) = ap₂ (λ (x y : ℕ). x + y) (count-ren f g) (count-ren f a)

  -- a substitution for bound indices takes nothing out
  pub count-sub : (s : ℕ → Term) (t : Term) → count p t ≤ count p (sub s t)
  count-sub s (Lam b) = count-sub (under s) b
  count-sub s (At (Bound i)) = let e : tally (p (Bound i)) ≡ 0 = ap tally (n i) in omega arith
  count-sub s (At (Con c)) = omega arith
  count-sub s (At (Int c)) = omega arith
  count-sub s (At (Str c)) = omega arith
  count-sub s (At (Name c)) = omega arith
  count-sub s (At (Var c)) = omega arith
  count-sub s (App f a) = let x = count-sub s f in let y = count-sub s a in omega arith

  -- and adds nothing where it holds none
  pub count-sub_none : (s : ℕ → Term) → ((i : ℕ) → count p (s i) ≡ 0) → (t : Term) → count p (sub s t) ≡ count p t
  count-sub_none s h (Lam b) = count-sub_none (under s) none b
    where
      none : (i : ℕ) → count p (under s i) ≡ 0
      none zero = ap tally (n zero)
      none (suc i) = count-ren next (s i) ∙ h i
  count-sub_none s h (At (Bound i)) = h i ∙ sym (ap tally (n i))
  count-sub_none s h (At (Con c)) = refl
  count-sub_none s h (At _) = refl
  count-sub_none s h (App f a) = ap₂ (λ (x y : ℕ). x + y) (count-sub_none s h f) (count-sub_none s h a)

  pub count-apply : (f a : Term) → count p f ≤ count p (apply f a)
  count-apply (Lam b) a = go (ready a)
    where
      go : (r : Bool) → count p b ≤ count p (cond r (sub (first a) b) (App (Lam b) a))
      go true = count-sub (first a) b
      go false = omega arith
  count-apply (At h) a = omega arith
  count-apply (App f b) a = omega arith

  pub count-apply_none : (f a : Term) → count p a ≡ 0 → count p (apply f a) ≡ count p f
  count-apply_none (Lam b) a e = go (ready a)
    where
      none : (i : ℕ) → count p (first a i) ≡ 0
      none zero = e
      none (suc i) = ap tally (n i)

      go : (r : Bool) → count p (cond r (sub (first a) b) (App (Lam b) a)) ≡ count p b
      go true = count-sub_none (first a) none b
      go false = omega arith
  count-apply_none (At h) a e = omega arith
  count-apply_none (App f b) a e = omega arith

  pub count-lam : (b : Term) → count p (lam b) ≡ count p b
  count-lam b = go (eta b) (eta-some b)
    where
      go : (o : Option Term) → IfSome o (λ u. b ≡ App (shift u) (At (Bound zero))) → count p (lam_of o b) ≡ count p b
      go None h = refl
      go (Some u) h =
          let x = count-ren next u in
          let y : count p b ≡ count p (shift u) + tally (p (Bound zero)) = ap (count p) h in
          let z : tally (p (Bound zero)) ≡ 0 = ap tally (n zero) in
          omega arith

-- a name or an index alone
abbrev pub IsPlain : Term → Type 0
IsPlain (At (Name n)) = Unit {0}
IsPlain (At (Bound i)) = Unit {0}
IsPlain (At _) = ⊥
IsPlain _ = ⊥

pub ready-plain : (t : Term) → IsPlain t → ready t ≡ true
ready-plain (At (Name n)) w = ready-name n
ready-plain (At (Bound n)) w = ready-bound n
ready-plain (At (Con c)) w = absurd w
ready-plain (At (Int c)) w = absurd w
ready-plain (At (Str c)) w = absurd w
ready-plain (At (Var c)) w = absurd w
ready-plain (Lam b) w = absurd w
ready-plain (App f a) w = absurd w

-- abstractions in front; arguments of a term; arguments below the abstractions in front
abbrev pub lams : Term → ℕ
lams (Lam b) = suc (lams b)
lams (At h) = 0
lams (App f a) = 0

-- the number of arguments
abbrev pub spine_length : Term → ℕ
spine_length (Lam b) = 0
spine_length (At h) = 0
spine_length (App f a) = suc (spine_length f)

-- the number of arguments below the abstractions in front
abbrev pub core : Term → ℕ
core (Lam b) = core b
core (At h) = 0
core (App f a) = suc (spine_length f)

-- the terms for indices are plain
abbrev AllPlain : (ℕ → Term) → Type 0
AllPlain s = (i : ℕ) → IsPlain (s i)

plain-ren : (f : ℕ → ℕ) (t : Term) → IsPlain t → IsPlain (ren f t)
plain-ren f (At (Name n)) w = tt
plain-ren f (At (Bound n)) w = tt
plain-ren f (At (Con c)) w = w
plain-ren f (At _) w = w
plain-ren f (Lam b) w = w
plain-ren f (App g a) w = w

plain-under : (s : ℕ → Term) → AllPlain s → AllPlain (under s)
plain-under s h zero = tt
plain-under s h (suc i) = plain-ren next (s i) (h i)

plain-first : (a : Term) → IsPlain a → AllPlain (first a)
plain-first a w zero = w
plain-first a w (suc i) = tt

-- neither abstractions in front nor arguments
abbrev Flat : Term → Type 0
Flat t = (lams t ≡ 0) × (spine_length t ≡ 0) × (core t ≡ 0)

plain-flat : (t : Term) → IsPlain t → Flat t
plain-flat (At h) w = (refl, refl, refl)
plain-flat (Lam b) w = absurd w
plain-flat (App f a) w = absurd w

spine_length-sub : (s : ℕ → Term) → AllPlain s → (t : Term) → spine_length (sub s t) ≡ spine_length t
spine_length-sub s h (Lam b) = refl
spine_length-sub s h (At (Bound i)) = (plain-flat (s i) (h i)).1
spine_length-sub s h (At (Con c)) = refl
spine_length-sub s h (At _) = refl
spine_length-sub s h (App f a) = ap suc (spine_length-sub s h f)

lams-sub : (s : ℕ → Term) → AllPlain s → (t : Term) → lams (sub s t) ≡ lams t
lams-sub s h (Lam b) = ap suc (lams-sub (under s) (plain-under s h) b)
lams-sub s h (At (Bound i)) = (plain-flat (s i) (h i)).0
lams-sub s h (At (Con c)) = refl
lams-sub s h (At _) = refl
lams-sub s h (App f a) = refl

core-sub : (s : ℕ → Term) → AllPlain s → (t : Term) → core (sub s t) ≡ core t
core-sub s h (Lam b) = core-sub (under s) (plain-under s h) b
core-sub s h (At (Bound i)) = (plain-flat (s i) (h i)).2
core-sub s h (At (Con c)) = refl
core-sub s h (At _) = refl
core-sub s h (App f a) = ap suc (spine_length-sub s h f)

-- one more name: an abstraction less, or an argument more
pub balance : (f a : Term) → IsPlain a → core (apply f a) + lams f ≡ core f + lams (apply f a) + 1
balance (Lam b) a w = rw (ready-plain a w) (let x = core-sub (first a) (plain-first a w) b in let y = lams-sub (first a) (plain-first a w) b in omega arith)
balance (At h) a w = refl
balance (App f b) a w = omega arith
