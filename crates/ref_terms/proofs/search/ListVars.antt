-- Lists whose items are renamed.
use Rattle.std.proofs.Common.{◌≡◌, ℕ, zero, suc, Bool, true, false, cond, ◌||◌, List, [], ◌∷◌, map, filter, refl, ap₂, ◌∙◌, option_map, slice_get}
use Rattle.std.specs.List.{list_any}

-- two maps after one another, in either order
pub map-square : {A B C D : Type 0} (f : B → D) (k : A → B) (h : C → D) (g : A → C) → ((a : A) → f (k a) ≡ h (g a)) → (xs : List A) → map f (map k xs) ≡ map h (map g xs)
map-square f k h g e [] = refl
map-square f k h g e (x ∷ xs) = ap₂ (λ (y : _) (ys : List _). y ∷ ys) (e x) (map-square f k h g e xs)

-- a map after another one
pub map-after : {A B C : Type 0} (f : B → C) (k : A → B) (h : A → C) → ((a : A) → f (k a) ≡ h a) → (xs : List A) → map f (map k xs) ≡ map h xs
map-after f k h e [] = refl
map-after f k h e (x ∷ xs) = ap₂ (λ (y : _) (ys : List _). y ∷ ys) (e x) (map-after f k h e xs)

-- a test that sees no difference chooses the same items
pub filter-vars : {A B : Type 0} (g : A → B) (f : A → Bool) (h : B → Bool) → ((a : A) → h (g a) ≡ f a) → (xs : List A) → filter h (map g xs) ≡ map g (filter f xs)
filter-vars g f h e [] = refl
filter-vars g f h e (x ∷ xs) = ap₂ (λ (b : Bool) (ys : List _). cond b (g x ∷ ys) ys) (e x) (filter-vars g f h e xs) ∙ go (f x)
  where
    go : (b : Bool) → cond b (g x ∷ map g (filter f xs)) (map g (filter f xs)) ≡ map g (cond b (x ∷ filter f xs) (filter f xs))
    go true = refl
    go false = refl

-- and holds of some item the same
pub any-vars : {A B : Type 0} (g : A → B) (f : A → Bool) (h : B → Bool) → ((a : A) → h (g a) ≡ f a) → (xs : List A) → list_any h (map g xs) ≡ list_any f xs
any-vars g f h e [] = refl
any-vars g f h e (x ∷ xs) = ap₂ (λ (b c : Bool). b || c) (e x) (any-vars g f h e xs)

-- items by their places
pub get-vars : {A B : Type 0} (g : A → B) (xs : List A) (i : ℕ) → slice_get (map g xs) i ≡ option_map g (slice_get xs i)
get-vars g [] i = refl
get-vars g (x ∷ xs) zero = refl
get-vars g (x ∷ xs) (suc i) = get-vars g xs i
