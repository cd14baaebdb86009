-- The oldest part of a list, and lists of goals.
use Rattle.std.proofs.Common.{◌≡◌, ℕ, suc, ◌≤◌, ◌+◌, ◌-◌, false, List, [], ◌∷◌, ◌++◌, length, cond, nat_eq, refl, sym, ap, ◌∙◌, arith, take, drop, ne_eqb, eq-eqb, length-drop, length-append}
use Rattle.std.proofs.Math.Seq.{drop-append-add}
use Rattle.std.proofs.lemmas.List.{take-append-drop}
use Rattle.search_moves.specs.declared.frame.Frame.{Frame}
use Rattle.search_moves.specs.World.{oldest, chain}

pub oldest-append : {A : Type 0} (xs ys : List A) (k : ℕ) → k ≤ length ys → oldest k (xs ++ ys) ≡ oldest k ys
oldest-append xs ys k h =
    let n : length (xs ++ ys) - k ≡ length xs + (length ys - k) = omega (arith, length-append xs ys, h) in
    ap (λ m. drop m (xs ++ ys)) n ∙ drop-append-add xs ys (length ys - k)

pub oldest-length : {A : Type 0} (k : ℕ) (xs : List A) → k ≤ length xs → length (oldest k xs) ≡ k
oldest-length k xs h = omega (arith, length-drop (length xs - k) xs, h)

pub oldest-all : {A : Type 0} (xs : List A) → oldest (length xs) xs ≡ xs
oldest-all xs = let n : length xs - length xs ≡ 0 = omega arith in ap (λ k. drop k xs) n

pub oldest-cons : {A : Type 0} (x : A) (xs : List A) (k : ℕ) → k ≤ length xs → oldest k (x ∷ xs) ≡ oldest k xs
oldest-cons {A} x xs k h = oldest-append (x ∷ []) xs k h

pub oldest-oldest : {A : Type 0} (a b : ℕ) (xs : List A) → a ≤ b → b ≤ length xs → oldest a (oldest b xs) ≡ oldest a xs
oldest-oldest a b xs h k =
    let parts = take-append-drop (length xs - b) xs in
    let long = oldest-length b xs k in
    sym (oldest-append (take (length xs - b) xs) (oldest b xs) a (omega (arith, long, h))) ∙ ap (oldest a) parts

pub chain-append : (xs ys : List Frame) (n : ℕ) → n ≤ length ys → chain (xs ++ ys) n ≡ chain ys n
chain-append [] ys n h = refl
chain-append (x ∷ xs) ys n h =
    let other : nat_eq (length (x ∷ (xs ++ ys))) n ≡ false = ne_eqb (suc (length (xs ++ ys))) n (omega (arith, length-append xs ys, h)) in
    ap (λ b. cond b (x ∷ chain (xs ++ ys) x.next) (chain (xs ++ ys) n)) other ∙ chain-append xs ys n h

pub chain-oldest : (k : ℕ) (fs : List Frame) (n : ℕ) → n ≤ k → k ≤ length fs → chain (oldest k fs) n ≡ chain fs n
chain-oldest k fs n h b =
    let long = oldest-length k fs b in
    sym (chain-append (take (length fs - k) fs) (oldest k fs) n (omega (arith, long, h))) ∙ ap (λ xs. chain xs n) (take-append-drop (length fs - k) fs)

pub chain-newest : (f : Frame) (older : List Frame) → chain (f ∷ older) (suc (length older)) ≡ f ∷ chain older f.next
chain-newest f older = ap (λ b. cond b (f ∷ chain older f.next) (chain older (suc (length older)))) (eq-eqb (suc (length older)) (suc (length older)) refl)

pub chain-none : (fs : List Frame) → chain fs 0 ≡ []
chain-none [] = refl
chain-none (f ∷ older) =
    let other : nat_eq (length (f ∷ older)) 0 ≡ false = ne_eqb (suc (length older)) 0 (omega arith) in
    ap (λ b. cond b (f ∷ chain older f.next) (chain older 0)) other ∙ chain-none older
