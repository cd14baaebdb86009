-- The places of texts in the table of symbols.
use Rattle.std.proofs.Common.{◌≡◌, ℕ, suc, ◌+◌, Bool, true, false, not, cond, nat_lt, ◌||◌, List, [], ◌∷◌, ◌++◌, length, map, Some, None, refl, ap, sym, ◌∙◌, arith, ◌<◌, append-nil, length-append, subst}
use Rattle.std.proofs.lemmas.List.{length-map, map-append}
use Rattle.std.specs.Prelude.{position, if◌then◌else◌}
use Rattle.std.specs.List.{list_any, position_or_len}
use Rattle.std.specs.Str.{bytes_eq}
use Rattle.std.specs.Cmp.Lexicographic.{nat_list_eq_equiv}
use Rattle.lp_resolve.specs.Symbols.{number_of, interned, Begins}

-- a test of images
pub any-map : {A B : Type 0} (f : A → B) (p : B → Bool) (xs : List A) → list_any p (map f xs) ≡ list_any (λ (x : A). p (f x)) xs
any-map f p [] = refl
any-map f p (x ∷ xs) = ap (λ (b : Bool). p (f x) || b) (any-map f p xs)

-- the first place of an image
pub place-map : {A B : Type 0} (f : A → B) (p : B → Bool) (xs : List A) → position_or_len p (map f xs) ≡ position_or_len (λ (x : A). p (f x)) xs
place-map f p [] = refl
place-map f p (x ∷ xs) = ap (λ (n : ℕ). cond (not (p (f x))) (1 + n) 0) (place-map f p xs)

-- the place that is found
pub place-found : {A : Type 0} (p : A → Bool) (xs : List A) (i : ℕ) → Some i ≡ position p xs → position_or_len p xs ≡ i
place-found p xs i e = at (nat_lt (position_or_len p xs) (length xs)) e where
  at : (b : Bool) → Some i ≡ cond b (Some (position_or_len p xs)) None → position_or_len p xs ≡ i
  at true same = cc
  at false same = absurd (let bad = same in cc)

-- a first text that fails, and none behind it
missing-step : (n m : ℕ) (b : Bool) (any : Bool) → (b || any) ≡ false → (any ≡ false → n ≡ m) → cond (not b) (1 + n) 0 ≡ suc m
missing-step n m true any none rest = absurd (let bad = none in cc)
missing-step n m false any none rest = omega (arith, rest none)

-- no place is found
pub place-missing : {A : Type 0} (p : A → Bool) (xs : List A) → list_any p xs ≡ false → position_or_len p xs ≡ length xs
place-missing p [] none = refl
place-missing p (x ∷ xs) none = missing-step (position_or_len p xs) (length xs) (p x) (list_any p xs) none (place-missing p xs)

-- one more at the end
pub place-last : {A : Type 0} (p : A → Bool) (xs : List A) (x : A) → list_any p xs ≡ false → p x ≡ true → position_or_len p (xs ++ x ∷ []) ≡ length xs
place-last p [] x none passes = rw passes refl
place-last p (y ∷ ys) x none passes = missing-step (position_or_len p (ys ++ x ∷ [])) (length ys) (p y) (list_any p ys) none (λ rest. place-last p ys x rest passes)

-- a text that is there keeps the table
pub interned-old : (table : List (List ℕ)) (text : List ℕ) → list_any (bytes_eq text) table ≡ true → interned table text ≡ table
interned-old table text there = rw there refl

-- a new text goes last
pub interned-new : (table : List (List ℕ)) (text : List ℕ) → list_any (bytes_eq text) table ≡ false → interned table text ≡ table ++ text ∷ []
interned-new table text new = rw new refl

-- what the look-ups say, where the table is the images of the keys
module _ {A : Type 0} (f : A → List ℕ) (keys : List A) (table : List (List ℕ)) (text : List ℕ) (same : map f keys ≡ table) where
  -- a number is found
  pub number-found : (i : ℕ) → Some i ≡ position (λ (k : A). bytes_eq text (f k)) keys → i ≡ number_of table text
  number-found i e = sym (place-found (λ (k : A). bytes_eq text (f k)) keys i e) ∙ sym (place-map f (bytes_eq text) keys) ∙ ap (λ (t : List (List ℕ)). number_of t text) same

  -- none is
  pub none-there : false ≡ list_any (λ (k : A). bytes_eq text (f k)) keys → list_any (bytes_eq text) table ≡ false
  none-there none = ap (λ (t : List (List ℕ)). list_any (bytes_eq text) t) (sym same) ∙ any-map f (bytes_eq text) keys ∙ sym none

  -- one is
  pub one-there : true ≡ list_any (λ (k : A). bytes_eq text (f k)) keys → list_any (bytes_eq text) table ≡ true
  one-there one = ap (λ (t : List (List ℕ)). list_any (bytes_eq text) t) (sym same) ∙ any-map f (bytes_eq text) keys ∙ sym one

  -- the number of a text that is not there
  pub number-missing : false ≡ list_any (λ (k : A). bytes_eq text (f k)) keys → length keys ≡ number_of table text
  number-missing none = sym (length-map keys f) ∙ ap (λ (t : List (List ℕ)). length t) same ∙ sym (place-missing (bytes_eq text) table (none-there none))

  -- a text that is there
  pub table-found : true ≡ list_any (λ (k : A). bytes_eq text (f k)) keys → table ≡ interned table text
  table-found one = sym (interned-old table text (one-there one))

  -- a new text
  pub table-new : (x : A) → f x ≡ text → false ≡ list_any (λ (k : A). bytes_eq text (f k)) keys → (new : List A)
      → new ≡ (if list_any (λ (k : A). bytes_eq (f x) (f k)) keys then keys else keys ++ x ∷ []) → map f new ≡ interned table text
  table-new x is none new e =
      let absent : list_any (λ (k : A). bytes_eq (f x) (f k)) keys ≡ false = ap (λ (t : List ℕ). list_any (λ (k : A). bytes_eq t (f k)) keys) is ∙ sym none in
      let last : new ≡ keys ++ x ∷ [] = e ∙ rw absent refl in
      let images : map f (keys ++ x ∷ []) ≡ table ++ text ∷ [] = map-append f keys (x ∷ []) ∙ rw (same, is) refl in
      ap (λ (ks : List A). map f ks) last ∙ images ∙ sym (interned-new table text (none-there none))

  -- its number
  pub number-new : false ≡ list_any (λ (k : A). bytes_eq text (f k)) keys → (new : List (List ℕ)) → new ≡ interned table text → length keys ≡ number_of new text
  number-new none new e =
      let absent = none-there none in
      sym (length-map keys f) ∙ ap (λ (t : List (List ℕ)). length t) same ∙ sym (place-last (bytes_eq text) table text absent (nat_list_eq_equiv.refl text))
      ∙ ap (λ (t : List (List ℕ)). number_of t text) (sym (e ∙ interned-new table text absent))

-- an interned text only goes last
pub interned-begins : (table : List (List ℕ)) (text : List ℕ) → Begins table (interned table text)
interned-begins table text = at (list_any (bytes_eq text) table) refl where
  at : (b : Bool) → list_any (bytes_eq text) table ≡ b → Begins table (interned table text)
  at true there = record { more = []; is = interned-old table text there ∙ sym (append-nil table) }
  at false new = record { more = text ∷ []; is = interned-new table text new }

-- a first text that passes, or one behind it
within-step : (n m : ℕ) (b : Bool) (any : Bool) → (b || any) ≡ true → (any ≡ true → n < m) → cond (not b) (1 + n) 0 < suc m
within-step n m true any some rest = omega arith
within-step n m false any some rest = omega (arith, rest some)

-- the first place of something that is there
pub place-within : {A : Type 0} (p : A → Bool) (xs : List A) → list_any p xs ≡ true → position_or_len p xs < length xs
place-within p [] some = absurd (let bad = some in cc)
place-within p (x ∷ xs) some = within-step (position_or_len p xs) (length xs) (p x) (list_any p xs) some (place-within p xs)

-- the number of an interned text is in the table
pub interned-within : (table : List (List ℕ)) (text : List ℕ) → number_of (interned table text) text < length (interned table text)
interned-within table text = at (list_any (bytes_eq text) table) refl where
  at : (b : Bool) → list_any (bytes_eq text) table ≡ b → number_of (interned table text) text < length (interned table text)
  at true there =
      let P : List (List ℕ) → Type 0 = λ t. number_of t text < length t in
      subst P (sym (interned-old table text there)) (place-within (bytes_eq text) table there)
  at false new =
      let P : List (List ℕ) → Type 0 = λ t. number_of t text < length t in
      subst P (sym (interned-new table text new)) (omega (arith, place-last (bytes_eq text) table text new (nat_list_eq_equiv.refl text), length-append table (text ∷ [])))
