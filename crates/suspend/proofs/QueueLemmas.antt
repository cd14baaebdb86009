-- The least number of a heap.
use Rattle.std.proofs.Common.{◌≡◌, ℕ, suc, ◌<◌, ◌≤◌, Bool, true, false, cond, ◌||◌, nat_eq, nat_lt, List, [], ◌∷◌, map, length, refl, sym, ap, ◌∙◌, Option, Some, None, IfSome, IfNone, arith}
use Rattle.std.specs.Prelude.{slice_index_or, IsPermutation}
use Rattle.std.specs.Ordering.{nat_cmp, is_lt}
use Rattle.std.specs.List.{AllByRecursion}
use Rattle.std.proofs.lemmas.Bool.{eqb-true, ltb-false}
use Rattle.std.specs.declared.cmp.Ordering.TheVariants.{Less, Equal, Greater}
use Rattle.std.proofs.lemmas.List.Sorted.{IsPermutation-map, list_any-IsPermutation, length_permutation}
use Rattle.std.specs.declared.cmp.Reverse.{Reverse}
use Rattle.suspend.specs.Store.{has}
use Rattle.suspend.specs.inside.Queue.{IsLeast, Gets, Gives, Leaves}
use Rattle.suspend.proofs.EventLemmas.{nat-eq-itself}

abbrev pub values : List (Reverse ℕ) → List ℕ
values xs = map (λ r. r.0) xs

-- a number was put in, or taken out
pub put-in : (n : Reverse ℕ) (xs ys : List (Reverse ℕ)) → IsPermutation (n ∷ xs) ys → Gets (values xs) n.0 (values ys)
put-in n xs ys p m = sym (list_any-IsPermutation (nat_eq m) (values (n ∷ xs)) (values ys) (IsPermutation-map (λ (r : Reverse ℕ). r.0) (n ∷ xs) ys p))

not-less : (a b : ℕ) → is_lt (nat_cmp a b) ≡ false → b ≤ a
not-less a b e = ltb-false a b (go (nat_lt a b) refl)
  where
    go : (x : Bool) → nat_lt a b ≡ x → nat_lt a b ≡ false
    go true k = absurd (let y : true ≡ false = sym (ap (λ (x : Bool). is_lt (cond x Less (cond (nat_eq a b) Equal Greater))) k) ∙ e in cc)
    go false k = k

below-all : (x : Reverse ℕ) (xs : List (Reverse ℕ)) → AllByRecursion (λ y. is_lt (nat_cmp y.0 x.0) ≡ false) xs → (m : ℕ) → has (values xs) m ≡ true → x.0 ≤ m
below-all x [] w m h = absurd (let z : false ≡ true = h in cc)
below-all x (y ∷ ys) w m h = go (nat_eq m y.0) refl (below-all x ys w.1 m)
  where
    go : (b : Bool) → nat_eq m y.0 ≡ b → (has (values ys) m ≡ true → x.0 ≤ m) → x.0 ≤ m
    go true k f = let low = not-less y.0 x.0 w.0 in let same = eqb-true m y.0 k in omega (arith, low, same)
    go false k f = f (sym (ap (λ (b : Bool). b || has (values ys) m) k) ∙ h)

first-stands : (x : Reverse ℕ) (xs : List (Reverse ℕ)) → 0 < length xs → x ≡ slice_index_or xs 0 x → has (values xs) x.0 ≡ true
first-stands x [] low e = absurd (let z : 0 < 0 = low in omega (arith, z))
first-stands x (y ∷ ys) low e = ap (λ (b : Bool). b || has (values ys) x.0) (ap (λ (r : Reverse ℕ). nat_eq x.0 r.0) (sym e) ∙ nat-eq-itself x.0)

-- the top of a heap is the least of its numbers
pub least-first : (x : Reverse ℕ) (xs : List (Reverse ℕ)) → 0 < length xs → x ≡ slice_index_or xs 0 x → AllByRecursion (λ y. is_lt (nat_cmp y.0 x.0) ≡ false) xs → IsLeast (values xs) x.0
least-first x xs low e w = (first-stands x xs low e, below-all x xs w)

pub none-left : (xs : List (Reverse ℕ)) → length xs ≡ 0 → values xs ≡ []
none-left [] e = refl
none-left (x ∷ xs) e = absurd (let z : suc (length xs) ≡ 0 = e in omega (arith, z))

values-length : (zs : List (Reverse ℕ)) → length (values zs) ≡ length zs
values-length [] = refl
values-length (z ∷ zs) = ap suc (values-length zs)

-- the top was taken out
pub taken : (x : Reverse ℕ) (xs ys : List (Reverse ℕ)) → IsPermutation xs (x ∷ ys) → AllByRecursion (λ y. is_lt (nat_cmp y.0 x.0) ≡ false) xs → Gives (values xs) x.0 (values ys)
taken x xs ys p w =
    let same : (m : ℕ) → has (values xs) m ≡ has (values (x ∷ ys)) m = λ m. list_any-IsPermutation (nat_eq m) (values xs) (values (x ∷ ys)) (IsPermutation-map (λ (r : Reverse ℕ). r.0) xs (x ∷ ys) p) in
    let size : suc (length ys) ≡ length xs = length_permutation xs (x ∷ ys) p in (
      (same x.0 ∙ ap (λ (b : Bool). b || has (values ys) x.0) (nat-eq-itself x.0), below-all x xs w),
      same,
      (let a = values-length ys in let b = values-length xs in omega (arith, size, a, b)),
    )

pub taken-out : (o : Option (Reverse ℕ)) (xs ys : List (Reverse ℕ)) → 0 < length (values xs) → IfNone o (length xs ≡ 0) → IfSome o (λ x. IsPermutation xs (x ∷ ys))
    → IfSome o (λ x. AllByRecursion (λ y. is_lt (nat_cmp y.0 x.0) ≡ false) xs) → (n : ℕ) × Gives (values xs) n (values ys)
taken-out None xs ys low none p w = absurd (let size = values-length xs in omega (arith, low, none, size))
taken-out (Some x) xs ys low none p w = (x.0, taken x xs ys p w)

pub none-len : (o : Option (Reverse ℕ)) (a b : ℕ) → a ≡ b → IfNone o (a ≡ 0) → IfNone o (b ≡ 0)
none-len None a b e h = sym e ∙ h
none-len (Some x) a b e h = tt

pub bound-of : (o : Option (Reverse ℕ)) (P Q : Reverse ℕ → Type 0) (H : Type 0) → IfSome o (λ x. H → P x × Q x) → H → IfSome o Q
bound-of None P Q H f h = tt
bound-of (Some x) P Q H f h = (f h).1

-- out once: the least number of all is the one that was asked for
pub leaves-once : (old new : List ℕ) (n m : ℕ) → IsLeast old n → Gives old m new → Leaves old n new
leaves-once old new n m least gives =
    let low = least.1 m gives.0.0 in
    let high = gives.0.1 n least.0 in
    let same : m ≡ n = omega (arith, low, high) in
    (λ k apart h. sym (ap (λ (b : Bool). b || has new k) (ap (nat_eq k) same ∙ apart)) ∙ sym (gives.1 k) ∙ h, gives.2)

pub leaves-again : (old mid new : List ℕ) (n m : ℕ) → m ≡ n → Leaves old n mid → Gives mid m new → Leaves old n new
leaves-again old mid new n m same leaves gives =
    (λ k apart h. sym (ap (λ (b : Bool). b || has new k) (ap (nat_eq k) same ∙ apart)) ∙ sym (gives.1 k) ∙ leaves.0 k apart h, let a = leaves.1 in let b = gives.2 in omega (arith, a, b))

pub some-there : (ns : List ℕ) (n : ℕ) → has ns n ≡ true → 0 < length ns
some-there [] n h = absurd (let z : false ≡ true = h in cc)
some-there (k ∷ ns) n h = omega arith
