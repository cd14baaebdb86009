-- Lists, by how many items they have.
use Rattle.std.proofs.Common.{◌≡◌, ℕ, ◌≤◌, ◌<◌, List, [], ◌∷◌, length, get_or, refl, arith}

pub no-items : {A : Type 0} (xs : List A) → length xs < 1 → xs ≡ []
no-items [] h = refl
no-items (x ∷ xs) h = absurd (omega (arith, h))

pub one-item : {A : Type 0} (xs : List A) (d : A) → 1 ≤ length xs → length xs < 2 → xs ≡ get_or xs 0 d ∷ []
one-item [] d l h = absurd (omega (arith, l))
one-item (x ∷ []) d l h = refl
one-item (x ∷ y ∷ xs) d l h = absurd (omega (arith, h))

pub two-items : {A : Type 0} (xs : List A) (d : A) → 2 ≤ length xs → length xs < 3 → xs ≡ get_or xs 0 d ∷ get_or xs 1 d ∷ []
two-items [] d l h = absurd (omega (arith, l))
two-items (x ∷ []) d l h = absurd (omega (arith, l))
two-items (x ∷ y ∷ []) d l h = refl
two-items (x ∷ y ∷ z ∷ xs) d l h = absurd (omega (arith, h))

pub three-items : {A : Type 0} (xs : List A) (d : A) → 3 ≤ length xs → length xs < 4 → xs ≡ get_or xs 0 d ∷ get_or xs 1 d ∷ get_or xs 2 d ∷ []
three-items [] d l h = absurd (omega (arith, l))
three-items (x ∷ []) d l h = absurd (omega (arith, l))
three-items (x ∷ y ∷ []) d l h = absurd (omega (arith, l))
three-items (x ∷ y ∷ z ∷ []) d l h = refl
three-items (x ∷ y ∷ z ∷ w ∷ xs) d l h = absurd (omega (arith, h))

pub three-or_more : {A : Type 0} (xs : List A) → 3 ≤ length xs → (a : A) × (b : A) × (c : A) × (ts : List A) × (xs ≡ a ∷ b ∷ c ∷ ts)
three-or_more [] l = absurd (omega (arith, l))
three-or_more (x ∷ []) l = absurd (omega (arith, l))
three-or_more (x ∷ y ∷ []) l = absurd (omega (arith, l))
three-or_more (x ∷ y ∷ z ∷ xs) l = (x, y, z, xs, refl)
