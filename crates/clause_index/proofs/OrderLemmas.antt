-- Numbers of clauses are in order, and merge.
use Rattle.std.proofs.Common.{◌≡◌, ℕ, zero, suc, ◌+◌, ◌<◌, ◌≤◌, Bool, true, false, cond, not, ◌||◌, nat_lt, List, [], ◌∷◌, length, drop, refl, sym, ap, ◌∙◌, arith, get_or}
use Rattle.std.proofs.lemmas.Bool.{ltb-true, ltb-false}
use Rattle.ref_terms.specs.search.Program.{Clause}
use Rattle.clause_key.specs.Passing.{numbers_of}
use Rattle.clause_index.specs.inside.Runs.{merged, merged_before, not_below, IsBelowAll, IsInOrder}

lower : (x y : ℕ) (xs : List ℕ) → x < y → IsBelowAll y xs → IsBelowAll x xs
lower x y [] l w = tt
lower x y (z ∷ xs) l w = (omega (arith, l, w.0), lower x y xs l w.1)

pub below-numbers : (test : Clause → Bool) (x i : ℕ) (ks : List Clause) → x < i → IsBelowAll x (numbers_of test i ks)
below-numbers test x i [] l = tt
below-numbers test x i (k ∷ ks) l = by (test k) (below-numbers test x (suc i) ks (omega (arith, l)))
  where
    by : (b : Bool) → IsBelowAll x (numbers_of test (suc i) ks) → IsBelowAll x (cond b (i ∷ numbers_of test (suc i) ks) (numbers_of test (suc i) ks))
    by true r = (l, r)
    by false r = r

pub numbers-in_order : (test : Clause → Bool) (i : ℕ) (ks : List Clause) → IsInOrder (numbers_of test i ks)
numbers-in_order test i [] = tt
numbers-in_order test i (k ∷ ks) = by (test k) (numbers-in_order test (suc i) ks)
  where
    by : (b : Bool) → IsInOrder (numbers_of test (suc i) ks) → IsInOrder (cond b (i ∷ numbers_of test (suc i) ks) (numbers_of test (suc i) ks))
    by true r = (below-numbers test i (suc i) ks (omega arith), r)
    by false r = r

not-lower : (i from : ℕ) → from ≤ i → nat_lt i from ≡ false
not-lower i from l = by (nat_lt i from) refl
  where
    by : (b : Bool) → nat_lt i from ≡ b → nat_lt i from ≡ false
    by true e = absurd (omega (arith, l, ltb-true i from e))
    by false e = e

pub is-lower : (i from : ℕ) → i < from → nat_lt i from ≡ true
is-lower i from l = by (nat_lt i from) refl
  where
    by : (b : Bool) → nat_lt i from ≡ b → nat_lt i from ≡ true
    by true e = e
    by false e = absurd (omega (arith, l, ltb-false i from e))

-- all are kept from a number that isn't above the first
all-kept : (test : Clause → Bool) (from i : ℕ) (ks : List Clause) → from ≤ i → not_below from (numbers_of test i ks) ≡ numbers_of test i ks
all-kept test from i [] l = refl
all-kept test from i (k ∷ ks) l = by (test k) (all-kept test from (suc i) ks (omega (arith, l)))
  where
    by : (b : Bool) → not_below from (numbers_of test (suc i) ks) ≡ numbers_of test (suc i) ks → not_below from (cond b (i ∷ numbers_of test (suc i) ks) (numbers_of test (suc i) ks)) ≡ cond b (i ∷ numbers_of test (suc i) ks) (numbers_of test (suc i) ks)
    by true r = ap (λ b. cond (not b) (i ∷ not_below from (numbers_of test (suc i) ks)) (not_below from (numbers_of test (suc i) ks))) (not-lower i from l) ∙ ap (λ xs. i ∷ xs) r
    by false r = r

later-kept : (test : Clause → Bool) (n from i : ℕ) (ks : List Clause) → i + n ≡ from → not_below from (numbers_of test i ks) ≡ numbers_of test from (drop n ks)
later-kept test zero from i ks e = let same : i ≡ from = omega (arith, e) in all-kept test from i ks (omega (arith, e)) ∙ ap (λ j. numbers_of test j ks) same
later-kept test (suc n) from i [] e = refl
later-kept test (suc n) from i (k ∷ ks) e = by (test k) (later-kept test n from (suc i) ks (omega (arith, e)))
  where
    by : (b : Bool) → not_below from (numbers_of test (suc i) ks) ≡ numbers_of test from (drop n ks) → not_below from (cond b (i ∷ numbers_of test (suc i) ks) (numbers_of test (suc i) ks)) ≡ numbers_of test from (drop n ks)
    by true r = ap (λ b. cond (not b) (i ∷ not_below from (numbers_of test (suc i) ks)) (not_below from (numbers_of test (suc i) ks))) (is-lower i from (omega (arith, e))) ∙ r
    by false r = r

-- the numbers from one on are those of the clauses from it on
pub kept-from : (test : Clause → Bool) (from : ℕ) (ks : List Clause) → not_below from (numbers_of test 0 ks) ≡ numbers_of test from (drop from ks)
kept-from test from ks = later-kept test from from 0 ks (omega arith)

-- a place at which the items stop being lower
pub point-drop : (from : ℕ) (xs : List ℕ) (r : ℕ) → r ≤ length xs → ((k d : ℕ) → k < r → nat_lt (get_or xs k d) from ≡ true) → ((k d : ℕ) → r ≤ k → k < length xs → nat_lt (get_or xs k d) from ≡ false) → drop r xs ≡ not_below from xs
point-drop from [] zero l below above = refl
point-drop from [] (suc r) l below above = absurd (let z : suc r ≤ 0 = l in omega (arith, z))
point-drop from (x ∷ xs) zero l below above =
    ap (λ ys. x ∷ ys) (point-drop from xs zero (omega arith) (λ k d h. absurd (omega (arith, h))) (λ k d g h. above (suc k) d (omega arith) (let z : suc k < suc (length xs) = omega (arith, h) in z)))
    ∙ sym (ap (λ b. cond (not b) (x ∷ not_below from xs) (not_below from xs)) (above 0 x (omega arith) (let z : 0 < suc (length xs) = omega arith in z)))
point-drop from (x ∷ xs) (suc r) l below above =
    point-drop from xs r (let z : suc r ≤ suc (length xs) = l in omega (arith, z)) (λ k d h. below (suc k) d (omega (arith, h))) (λ k d g h. above (suc k) d (omega (arith, g)) (let z : suc k < suc (length xs) = omega (arith, h) in z))
    ∙ sym (ap (λ b. cond (not b) (x ∷ not_below from xs) (not_below from xs)) (below 0 x (omega arith)))

pub none-lower : (xs : List ℕ) → xs ≡ not_below 0 xs
none-lower [] = refl
none-lower (x ∷ xs) = ap (λ ys. x ∷ ys) (none-lower xs) ∙ sym (ap (λ b. cond (not b) (x ∷ not_below 0 xs) (not_below 0 xs)) (not-lower x 0 (omega arith)))

-- items of a list in order rise
above-all : (x : ℕ) (xs : List ℕ) (j d : ℕ) → IsBelowAll x xs → j < length xs → x < get_or xs j d
above-all x [] j d w l = absurd (let z : j < 0 = l in omega (arith, z))
above-all x (y ∷ xs) zero d w l = w.0
above-all x (y ∷ xs) (suc j) d w l = above-all x xs j d w.1 (let z : suc j < suc (length xs) = l in omega (arith, z))

rises : (xs : List ℕ) (i j d : ℕ) → IsInOrder xs → i ≤ j → j < length xs → get_or xs i d ≤ get_or xs j d
rises [] i j d w l h = absurd (let z : j < 0 = h in omega (arith, z))
rises (x ∷ xs) zero zero d w l h = let z : x ≤ x = omega arith in z
rises (x ∷ xs) zero (suc j) d w l h = let z = above-all x xs j d w.0 (let y : suc j < suc (length xs) = h in omega (arith, y)) in omega (arith, z)
rises (x ∷ xs) (suc i) zero d w l h = absurd (omega (arith, l))
rises (x ∷ xs) (suc i) (suc j) d w l h = rises xs i j d w.1 (omega (arith, l)) (let z : suc j < suc (length xs) = h in omega (arith, z))

pub parts-at : (from : ℕ) (xs : List ℕ) → IsInOrder xs → (i j d : ℕ) → i ≤ j → j < length xs → nat_lt (get_or xs j d) from ≡ true → nat_lt (get_or xs i d) from ≡ true
parts-at from xs w i j d l h e = is-lower (get_or xs i d) from (omega (arith, rises xs i j d w l h, ltb-true (get_or xs j d) from e))

-- the lists of two tests that exclude each other merge into that of both
first-before : (i : ℕ) (rest : List ℕ → List ℕ) (ys : List ℕ) → IsBelowAll i ys → merged_before i rest ys ≡ i ∷ rest ys
first-before i rest [] w = refl
first-before i rest (y ∷ ys) w = ap (λ b. cond b (i ∷ rest (y ∷ ys)) (y ∷ merged_before i rest ys)) (is-lower i y w.0)

first-after : (i : ℕ) (xs ys : List ℕ) → IsBelowAll i xs → merged xs (i ∷ ys) ≡ i ∷ merged xs ys
first-after i [] ys w = refl
first-after i (x ∷ xs) ys w = ap (λ b. cond b (x ∷ merged xs (i ∷ ys)) (i ∷ merged_before x (merged xs) ys)) (not-lower x i (omega (arith, w.0)))

pub merged-numbers : (a b : Clause → Bool) → ((k : Clause) → a k ≡ true → b k ≡ true → ⊥) → (i : ℕ) (ks : List Clause) → merged (numbers_of a i ks) (numbers_of b i ks) ≡ numbers_of (λ k. a k || b k) i ks
merged-numbers a b apart i [] = refl
merged-numbers a b apart i (k ∷ ks) = by (a k) (b k) refl refl (numbers_of a (suc i) ks) (numbers_of b (suc i) ks) (numbers_of (λ k. a k || b k) (suc i) ks) (below-numbers a i (suc i) ks (omega arith)) (below-numbers b i (suc i) ks (omega arith)) (merged-numbers a b apart (suc i) ks)
  where
    by : (x y : Bool) → a k ≡ x → b k ≡ y → (xs ys zs : List ℕ) → IsBelowAll i xs → IsBelowAll i ys → merged xs ys ≡ zs → merged (cond (a k) (i ∷ xs) xs) (cond (b k) (i ∷ ys) ys) ≡ cond (a k || b k) (i ∷ zs) zs
    by true true e f xs ys zs u v r = absurd (apart k e f)
    by true false e f xs ys zs u v r = rw (e, f) (first-before i (merged xs) ys v ∙ ap (λ us. i ∷ us) r)
    by false true e f xs ys zs u v r = rw (e, f) (first-after i xs ys u ∙ ap (λ us. i ∷ us) r)
    by false false e f xs ys zs u v r = rw (e, f) r
