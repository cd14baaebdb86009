-- The first of the broken rules.
use Rattle.std.proofs.Common.{◌≡◌, ◌∙◌, ◌↔◌, ◌<◌, ℕ, suc, Bool, true, false, ◌&&◌, ◌||◌, cond, nat_eq, nat_lt, List, [], ◌∷◌, Option, Some, None, All, Contains, length, ap, sym, refl, subst, arith}
use Rattle.std.proofs.lemmas.List.Elements.{All-nil, All-cons}
use Rattle.std.proofs.lemmas.Bool.Decides.{nat_tests}
use Rattle.lp_resolve.specs.StaticRules.{Breach, is_before, earlier, first_of}

-- the earlier of one and another is there
earlier-some : (a : Breach) (o : Option Breach) → earlier (Some a) o ≡ None → ⊥
earlier-some a None e = cc
earlier-some a (Some b) e = at (is_before b a) e where
  at : (x : Bool) → cond x (Some b) (Some a) ≡ None → ⊥
  at true e = cc
  at false e = cc

-- none is first exactly where there is none
pub first_of-none : (bs : List Breach) → (first_of bs ≡ None) ↔ (bs ≡ [])
first_of-none [] = (λ e. refl, λ e. refl)
first_of-none (b ∷ bs) = (λ e. absurd (earlier-some b (first_of bs) e), λ e. absurd (cc))

-- no number is before itself
pub before-same : (a : Breach) → is_before a a ≡ false
before-same a = grind (arith, nat_tests)

-- two breaches aren't before each other
pub before-once : (a b : Breach) → is_before a b ≡ true → is_before b a ≡ false
before-once a b e = grind (arith, nat_tests)

-- what isn't before one that isn't before a third isn't before the third
pub before-through : (a b c : Breach) → is_before a b ≡ false → is_before b c ≡ false → is_before a c ≡ false
before-through a b c e f = grind (arith, nat_tests)

-- the first of these is there, and none is before it
pub record IsFirst (bs : List Breach) (b : Breach) : Type 0 where
  pub there : Contains bs b
  pub least : All (λ c. is_before c b ≡ false) bs

-- one more in front
pub contains-more : (a b : Breach) (bs : List Breach) → Contains bs b → Contains (a ∷ bs) b
contains-more a b bs (k, within, is) = (suc k, omega arith, is)

-- all of them, where one is first
is_first-front : (a : Breach) (bs : List Breach) (m : Breach) → IsFirst bs m → (x : Bool) → is_before m a ≡ x → (b : Breach) → cond x (Some m) (Some a) ≡ Some b → IsFirst (a ∷ bs) b
is_first-front a bs m f true e b is =
    let same : m ≡ b = cc in
    subst (IsFirst (a ∷ bs)) same (record {
      there = contains-more a m bs f.there;
      least = All-cons (λ c. is_before c m ≡ false) a bs (before-once m a e) f.least;
    })
is_first-front a bs m f false e b is =
    let same : a ≡ b = cc in
    subst (IsFirst (a ∷ bs)) same (record {
      there = (0, omega arith, refl);
      least = All-cons (λ c. is_before c a ≡ false) a bs (before-same a) (λ k d within. before-through _ m a (f.least k d within) e);
    })

-- alone
is_first-alone : (a : Breach) (bs : List Breach) → bs ≡ [] → (b : Breach) → Some a ≡ Some b → IsFirst (a ∷ bs) b
is_first-alone a bs none b is =
    let same : a ≡ b = cc in
    subst (IsFirst (a ∷ bs)) same (rw none (record {
      there = (0, omega arith, refl);
      least = All-cons (λ c. is_before c a ≡ false) a [] (before-same a) (All-nil (λ c. is_before c a ≡ false));
    }))

-- the first of them
pub first_of-first : (bs : List Breach) (b : Breach) → first_of bs ≡ Some b → IsFirst bs b
first_of-first [] b e = absurd (cc)
first_of-first (a ∷ bs) b e = at (first_of bs) refl e (first_of-first bs) where
  at : (o : Option Breach) → first_of bs ≡ o → earlier (Some a) o ≡ Some b → ((m : Breach) → first_of bs ≡ Some m → IsFirst bs m) → IsFirst (a ∷ bs) b
  at None none is rest = is_first-alone a bs ((first_of-none bs).0 none) b is
  at (Some m) some is rest = is_first-front a bs m (rest m some) (is_before m a) refl b is
