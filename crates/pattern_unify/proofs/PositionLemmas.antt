-- The lists of positions.
use Rattle.std.proofs.Common.{◌≡◌, ℕ, zero, suc, ◌+◌, ◌-◌, ◌<◌, ◌≤◌, Bool, true, false, ◌||◌, cond, not, nat_eq, List, [], ◌∷◌, Some, None, length, map, refl, sym, ap, ap₂, ◌∙◌, subst, arith}
use Rattle.std.specs.List.{list_any, filter, position_from}
use Rattle.std.proofs.lemmas.List.{length-map}
use Rattle.ref_terms.specs.unification.Pattern.{SpineName, of_name, same_name}
use Rattle.ref_terms.specs.unification.Closing.{up_from}
use Rattle.ref_terms.specs.unification.Positions.{agreeing, shared, position, positions_of, all_but}
use Rattle.beta_fragment.specs.Names.{AllBelow}
use Rattle.pattern_unify.proofs.SpineNameLemmas.{nat_eq-turned}

-- a name stands in a spine where its number does
pub among-names : (n : ℕ) (ns : List ℕ) → list_any (same_name (of_name n)) (map of_name ns) ≡ list_any (λ m. nat_eq m n) ns
among-names n [] = refl
among-names n (m ∷ ns) = ap₂ (λ (x y : Bool). x || y) (nat_eq-turned n m) (among-names n ns)

-- and at the same place
place-from : (i n : ℕ) (ns : List ℕ) → position_from (λ m. nat_eq m n) i ns ≡ cond (list_any (same_name (of_name n)) (map of_name ns)) (Some (position i (of_name n) (map of_name ns))) None
place-from i n [] = refl
place-from i n (m ∷ ns) =
    let next : i + 1 ≡ suc i = omega arith in
    ap (λ b. cond b (Some i) (position_from (λ k. nat_eq k n) (i + 1) ns)) (nat_eq-turned m n)
    ∙ go (nat_eq n m) (place-from (i + 1) n ns ∙ ap (λ (j : ℕ). cond (list_any (same_name (of_name n)) (map of_name ns)) (Some (position j (of_name n) (map of_name ns))) None) next)
  where
    go : (b : Bool) → position_from (λ k. nat_eq k n) (i + 1) ns ≡ cond (list_any (same_name (of_name n)) (map of_name ns)) (Some (position (suc i) (of_name n) (map of_name ns))) None →
        cond b (Some i) (position_from (λ k. nat_eq k n) (i + 1) ns) ≡ cond (b || list_any (same_name (of_name n)) (map of_name ns)) (Some (cond b i (position (suc i) (of_name n) (map of_name ns)))) None
    go true e = refl
    go false e = e

pub place-is : (n : ℕ) (ns : List ℕ) → position_from (λ m. nat_eq m n) 0 ns ≡ cond (list_any (same_name (of_name n)) (map of_name ns)) (Some (position 0 (of_name n) (map of_name ns))) None
place-is n ns = place-from 0 n ns

-- numbers up to another, the first one in front
pub up-front : (k n : ℕ) → k < n → up_from k (n - k) ≡ k ∷ up_from (k + 1) (n - (k + 1))
up-front k n h =
    let one : n - k ≡ suc (n - (k + 1)) = omega arith in
    let next : suc k ≡ k + 1 = omega arith in
    ap (up_from k) one ∙ ap (λ (j : ℕ). k ∷ up_from j (n - (k + 1))) next

-- one more position below an arity, or not
below-cond : (b : Bool) (k : ℕ) (ks : List ℕ) (n : ℕ) → (b ≡ true → k < n) → AllBelow ks n → AllBelow (cond b (k ∷ ks) ks) n
below-cond false k ks n h w i l = w i l
below-cond true k ks n h w zero l = h refl
below-cond true k ks n h w (suc i) l = w i (omega (arith, l))

agreeing-within : (i n : ℕ) (xs ys : List SpineName) → i + length xs ≤ n → AllBelow (agreeing i xs ys) n
agreeing-within i n [] ys h = λ j l. absurd (omega (arith, l))
agreeing-within i n (x ∷ xs) [] h = λ j l. absurd (omega (arith, l))
agreeing-within i n (x ∷ xs) (y ∷ ys) h = below-cond (same_name x y) i (agreeing (suc i) xs ys) n (λ e. omega (arith, h)) (agreeing-within (suc i) n xs ys (omega (arith, h)))

shared-within : (i n : ℕ) (xs ys : List SpineName) → i + length xs ≤ n → AllBelow (shared i xs ys) n
shared-within i n [] ys h = λ j l. absurd (omega (arith, l))
shared-within i n (x ∷ xs) ys h = below-cond (list_any (same_name x) ys) i (shared (suc i) xs ys) n (λ e. omega (arith, h)) (shared-within (suc i) n xs ys (omega (arith, h)))

position-within : (i : ℕ) (x : SpineName) (ys : List SpineName) → list_any (same_name x) ys ≡ true → position i x ys < i + length ys
position-within i x [] e = absurd (let k : false ≡ true = e in cc)
position-within i x (y ∷ ys) e = go (same_name x y) e (position-within (suc i) x ys)
  where
    go : (b : Bool) → (b || list_any (same_name x) ys) ≡ true → (list_any (same_name x) ys ≡ true → position (suc i) x ys < suc i + length ys) → cond b i (position (suc i) x ys) < i + length (y ∷ ys)
    go true e h = omega arith
    go false e h = let k = h e in omega (arith, k)

positions-within : (i : ℕ) (xs ys : List SpineName) → AllBelow (positions_of i xs ys) (length ys)
positions-within i [] ys = λ j l. absurd (omega (arith, l))
positions-within i (x ∷ xs) ys =
    below-cond (list_any (same_name x) ys) (position 0 x ys) (positions_of (suc i) xs ys) (length ys) (λ e. let k = position-within 0 x ys e in omega (arith, k)) (positions-within (suc i) xs ys)

filtered-within : (p : ℕ → Bool) (k m n : ℕ) → k + m ≤ n → AllBelow (filter p (up_from k m)) n
filtered-within p k zero n h = λ j l. absurd (omega (arith, l))
filtered-within p k (suc m) n h = below-cond (p k) k (filter p (up_from (suc k) m)) n (λ e. omega (arith, h)) (filtered-within p (suc k) m n (omega (arith, h)))

-- each position lies below the arity
pub agreeing-below : (ks xs ys : List ℕ) → ks ≡ agreeing 0 (map of_name xs) (map of_name ys) → AllBelow ks (length xs)
agreeing-below ks xs ys e = subst (λ (js : List ℕ). AllBelow js (length xs)) (sym e) (agreeing-within 0 (length xs) (map of_name xs) (map of_name ys) (omega (arith, length-map xs of_name)))

pub shared-below : (ks xs ys : List ℕ) → ks ≡ shared 0 (map of_name xs) (map of_name ys) → AllBelow ks (length xs)
shared-below ks xs ys e = subst (λ (js : List ℕ). AllBelow js (length xs)) (sym e) (shared-within 0 (length xs) (map of_name xs) (map of_name ys) (omega (arith, length-map xs of_name)))

pub positions-below : (ks xs ys : List ℕ) → ks ≡ positions_of 0 (map of_name xs) (map of_name ys) → AllBelow ks (length ys)
positions-below ks xs ys e = subst (λ (js : List ℕ). AllBelow js (length ys)) (sym e) (subst (AllBelow (positions_of 0 (map of_name xs) (map of_name ys))) (length-map ys of_name) (positions-within 0 (map of_name xs) (map of_name ys)))

pub all_but-below : (ks : List ℕ) (i n : ℕ) → ks ≡ all_but i n → AllBelow ks n
all_but-below ks i n e = subst (λ (js : List ℕ). AllBelow js n) (sym e) (filtered-within (λ k. not (nat_eq i k)) 0 n n (omega arith))
