-- A list taken apart before its last items.
use Rattle.std.proofs.Common.{◌≡◌, ℕ, zero, suc, ◌<◌, ◌-◌, ◌++◌, List, [], ◌∷◌, length, take, drop, get_or, refl, sym, ap, ◌∙◌, arith, length-drop}
use Rattle.level_terms.specs.declared.node.TermId.{TermId}

split-index : (xs : List TermId) (i : ℕ) (d : TermId) → i < length xs → xs ≡ take i xs ++ get_or xs i d ∷ drop (suc i) xs
split-index [] i d h = absurd (omega arith)
split-index (x ∷ xs) zero d h = refl
split-index (x ∷ xs) (suc i) d h = ap (λ (ys : List TermId). x ∷ ys) (split-index xs i d (omega (arith, h)))

pub split-args : (xs : List TermId) (len n : ℕ) (d : TermId) → len ≡ length xs → n < length xs → xs ≡ take (len - n - 1) xs ++ get_or xs (len - n - 1) d ∷ drop (len - n) xs
split-args xs len n d l h =
    split-index xs (len - n - 1) d (omega (arith, l, h))
    ∙ ap (λ k. take (len - n - 1) xs ++ get_or xs (len - n - 1) d ∷ drop k xs) (let q : suc (len - n - 1) ≡ len - n = omega (arith, l, h) in q)

take-whole : (xs : List TermId) → take (length xs) xs ≡ xs
take-whole [] = refl
take-whole (x ∷ xs) = ap (λ (ys : List TermId). x ∷ ys) (take-whole xs)

pub args-slice : (xs : List TermId) (at : ℕ) → take (length xs - at) (drop at xs) ≡ drop at xs
args-slice xs at = ap (λ k. take k (drop at xs)) (sym (length-drop at xs)) ∙ take-whole (drop at xs)

pub args-count : (xs : List TermId) (len n : ℕ) → len ≡ length xs → n < length xs → length (drop (len - n) xs) ≡ n
args-count xs len n l h = let k = length-drop (len - n) xs in omega (arith, k, l, h)

pub empty-list : {A : Type 0} (xs : List A) → length xs ≡ 0 → xs ≡ []
empty-list [] h = refl
empty-list (x ∷ xs) h = absurd (omega (arith, h))
