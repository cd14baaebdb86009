-- Lists of names, of which the first ones are their own.
use Rattle.std.proofs.Common.{◌≡◌, ℕ, ◌<◌, ◌≤◌, ◌+◌, ◌-◌, ◌++◌, List, [], ◌∷◌, length, take, map, slice_index, refl, sym, ap, ◌∙◌, arith, length-append, append-nil}
use Rattle.std.specs.List.{range_with_len}
use Rattle.std.proofs.lemmas.List.{take-append-le, get_or_append_left, get_or-append_right}
use Rattle.std.proofs.lemmas.List.FromFn.{length-range_with_len, get_or-range_with_len, take-map-range_with_len}
use Rattle.std.proofs.Math.Seq.{take-append-add}

pub levels-length : (own : ℕ) (more : List ℕ) → length (range_with_len 0 own ++ more) ≡ own + length more
levels-length own more = let e = length-append (range_with_len 0 own) more in let f = length-range_with_len 0 own in omega (arith, e, f)

pub own-name : (own : ℕ) (more : List ℕ) (i : ℕ) → i < own → i ≡ slice_index (range_with_len 0 own ++ more) i
own-name own more i k =
    let long = length-range_with_len 0 own in
    let here = get_or_append_left (range_with_len 0 own) more 0 i (omega (arith, k, long)) in
    let is = get_or-range_with_len 0 own i 0 k in
    omega (arith, here, is)

pub more-name : (own : ℕ) (more : List ℕ) (i : ℕ) → own ≤ i → slice_index more (i - own) ≡ slice_index (range_with_len 0 own ++ more) i
more-name own more i k = sym (get_or-append_right (range_with_len 0 own) more own i 0 (length-range_with_len 0 own) k)

same-map : (xs : List ℕ) → map (λ x. x) xs ≡ xs
same-map [] = refl
same-map (x ∷ xs) = ap (λ ys. x ∷ ys) (same-map xs)

pub fewer-own : (own : ℕ) (more : List ℕ) (n : ℕ) → n ≤ own → range_with_len 0 n ++ [] ≡ take n (range_with_len 0 own ++ more)
fewer-own own more n k =
    let long = length-range_with_len 0 own in
    append-nil (range_with_len 0 n)
    ∙ sym (same-map (range_with_len 0 n))
    ∙ sym (take-map-range_with_len (λ (x : ℕ). x) 0 own n k)
    ∙ ap (take n) (same-map (range_with_len 0 own))
    ∙ sym (take-append-le n (range_with_len 0 own) more (omega (arith, k, long)))

pub fewer-more : (own : ℕ) (more : List ℕ) (n : ℕ) → own ≤ n → range_with_len 0 own ++ take (n - own) more ≡ take n (range_with_len 0 own ++ more)
fewer-more own more n k =
    let long = length-range_with_len 0 own in
    let at : length (range_with_len 0 own) + (n - own) ≡ n = omega (arith, k, long) in
    sym (take-append-add (range_with_len 0 own) more (n - own)) ∙ ap (λ m. take m (range_with_len 0 own ++ more)) at
