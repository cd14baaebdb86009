-- Places of numbers in lists that grow.
use Rattle.std.proofs.Common.{◌≡◌, ◌∙◌, ℕ, ◌+◌, Bool, true, false, not, ◌||◌, cond, nat_eq, List, [], ◌∷◌, ◌++◌, length, if◌then◌else◌, refl, ap, sym, arith}
use Rattle.std.proofs.lemmas.Bool.Decides.{nat_tests}
use Rattle.std.specs.List.{list_any, position_or_len}
use Rattle.std.proofs.lemmas.List.{append-nil}
use Rattle.lp_resolve.specs.Symbols.{Begins}
use Rattle.lp_resolve.proofs.SymbolPlaces.{place-last}
use Rattle.type_texts.specs.TypeText.{noted, place_in}

same-number : (x : ℕ) → nat_eq x x ≡ true
same-number x = grind (arith, nat_tests)

-- the place of a new number
pub number-new : (keys new : List ℕ) (x : ℕ) → list_any (nat_eq x) keys ≡ false → new ≡ noted keys x → length keys ≡ place_in new x
number-new keys new x none e =
    let last : new ≡ keys ++ x ∷ [] = e ∙ rw none refl in
    sym (place-last (nat_eq x) keys x none (same-number x)) ∙ ap (λ (xs : List ℕ). place_in xs x) (sym last)

any-last : {A : Type 0} (p : A → Bool) (xs : List A) (x : A) → p x ≡ true → list_any p (xs ++ x ∷ []) ≡ true
any-last p [] x e = ap (λ b. b || false) e
any-last p (y ∷ ys) x e = either (p y) (any-last p ys x e) where
  either : {c : Bool} (b : Bool) → c ≡ true → (b || c) ≡ true
  either true h = refl
  either false h = h

-- a noted number is there
pub noted-has : (xs : List ℕ) (x : ℕ) → list_any (nat_eq x) (noted xs x) ≡ true
noted-has xs x = at (list_any (nat_eq x) xs) refl where
  at : (b : Bool) → list_any (nat_eq x) xs ≡ b → list_any (nat_eq x) (if b then xs else xs ++ x ∷ []) ≡ true
  at true e = e
  at false e = any-last (nat_eq x) xs x (same-number x)

step : (n m : ℕ) (b any : Bool) → (b || any) ≡ true → (any ≡ true → n ≡ m) → cond {A = ℕ} (not b) (1 + n) 0 ≡ cond (not b) (1 + m) 0
step n m true any some same = refl
step n m false any some same = ap (λ (k : ℕ). 1 + k) (same some)

place-front : {A : Type 0} (p : A → Bool) (xs more : List A) → list_any p xs ≡ true → position_or_len p (xs ++ more) ≡ position_or_len p xs
place-front p [] more some = absurd (let bad = some in cc)
place-front p (x ∷ xs) more some = step (position_or_len p (xs ++ more)) (position_or_len p xs) (p x) (list_any p xs) some (λ rest. place-front p xs more rest)

-- a list begins so with a number noted
pub noted-begins : (xs new : List ℕ) (x : ℕ) → new ≡ noted xs x → Begins xs new
noted-begins xs new x e = at (list_any (nat_eq x) xs) e where
  at : (b : Bool) → new ≡ (if b then xs else xs ++ x ∷ []) → Begins xs new
  at true same = record { more = []; is = same ∙ sym (append-nil xs) }
  at false same = record { more = x ∷ []; is = same }

-- the place of a noted number stays
pub place-stays : (xs new all : List ℕ) (x : ℕ) → new ≡ noted xs x → Begins new all → place_in all x ≡ place_in new x
place-stays xs new all x e b =
    ap (λ (ys : List ℕ). place_in ys x) b.is ∙ place-front (nat_eq x) new b.more (ap (λ (ys : List ℕ). list_any (nat_eq x) ys) e ∙ noted-has xs x)
