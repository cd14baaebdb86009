-- The pairs of a rule.
use Rattle.std.proofs.Common.{◌≡◌, ◌∙◌, ℕ, zero, suc, ◌+◌, ◌<◌, List, [], ◌∷◌, ◌++◌, map, length, take, drop, get_or, Option, Some, None, refl, ap, sym, subst, arith}
use Rattle.std.specs.List.{filter_map}
use Rattle.std.specs.Option.{option_map_or}
use Rattle.std.proofs.lemmas.List.{drop_more, take_more}
use Rattle.std.proofs.lemmas.List.Elements.{filter_map-append}
use Rattle.ref_terms.specs.declared.tree.Tree.{Tree}
use Rattle.lp_resolve.specs.declared.program.HeadTree.{HeadTree}
use Rattle.lp_resolve.specs.Plain.{whole_argument, whole_place}

-- the goals of heads
abbrev pub goals : List HeadTree → List Tree
goals hs = map (λ h. h.goal) hs

-- what is found from a head on
abbrev pub Found : ℕ → List HeadTree → ℕ → Type 0
Found v hs i = whole_place v i (goals (drop i hs)) ≡ whole_place v 0 (goals hs)

found-from : (v : ℕ) (hs : List HeadTree) (i : ℕ) (h : HeadTree) → i < length hs → h ≡ get_or hs i h → Found v hs i
    → option_map_or {U = Option (ℕ × ℕ)} (λ arg. Some (i, arg)) (whole_argument v h.goal) (whole_place v (suc i) (goals (drop (i + 1) hs))) ≡ whole_place v 0 (goals hs)
found-from v hs i h l e w =
    let same : drop i hs ≡ h ∷ drop (i + 1) hs = drop_more hs i h l ∙ ap (λ (x : HeadTree). x ∷ drop (i + 1) hs) (sym e) in
    sym (ap (λ (xs : List HeadTree). whole_place v i (goals xs)) same) ∙ w

pub found-here : (v : ℕ) (hs : List HeadTree) (i arg : ℕ) (h : HeadTree) (o : Option ℕ) → i < length hs → h ≡ get_or hs i h → Found v hs i → o ≡ whole_argument v h.goal → o ≡ Some arg → Some (i, arg) ≡ whole_place v 0 (goals hs)
found-here v hs i arg h o l e w r s =
    sym (ap (λ (x : Option ℕ). option_map_or {U = Option (ℕ × ℕ)} (λ a. Some (i, a)) x (whole_place v (suc i) (goals (drop (i + 1) hs)))) (sym r ∙ s)) ∙ found-from v hs i h l e w

pub found-later : (v : ℕ) (hs : List HeadTree) (i : ℕ) (h : HeadTree) (o : Option ℕ) → i < length hs → h ≡ get_or hs i h → Found v hs i → o ≡ whole_argument v h.goal → o ≡ None → Found v hs (i + 1)
found-later v hs i h o l e w r s =
    ap (λ k. whole_place v k (goals (drop (i + 1) hs))) (let z : i + 1 ≡ suc i = omega arith in z)
    ∙ sym (ap (λ (x : Option ℕ). option_map_or {U = Option (ℕ × ℕ)} (λ a. Some (i, a)) x (whole_place v (suc i) (goals (drop (i + 1) hs)))) (sym r ∙ s)) ∙ found-from v hs i h l e w

-- two lists of heads
place-from : (v i : ℕ) (hs : List HeadTree) → whole_place v i (goals hs) ≡ option_map_or {U = Option (ℕ × ℕ)} (λ p. Some (i + p.0, p.1)) (whole_place v 0 (goals hs)) None
place-from v i [] = refl
place-from v i (h ∷ hs) = go (place-from v (suc i) hs) (place-from v 1 hs) (whole_argument v h.goal)
  where
    shifted : (o : Option (ℕ × ℕ)) → option_map_or {U = Option (ℕ × ℕ)} (λ p. Some (suc i + p.0, p.1)) o None ≡ option_map_or {U = Option (ℕ × ℕ)} (λ p. Some (i + p.0, p.1)) (option_map_or {U = Option (ℕ × ℕ)} (λ p. Some (1 + p.0, p.1)) o None) None
    shifted None = refl
    shifted (Some p) = let at : ℕ → Option (ℕ × ℕ) = λ k. Some (k, p.1) in ap at (let z : suc i + p.0 ≡ i + (1 + p.0) = omega arith in z)

    go : whole_place v (suc i) (goals hs) ≡ option_map_or {U = Option (ℕ × ℕ)} (λ p. Some (suc i + p.0, p.1)) (whole_place v 0 (goals hs)) None → whole_place v 1 (goals hs) ≡ option_map_or {U = Option (ℕ × ℕ)} (λ p. Some (1 + p.0, p.1)) (whole_place v 0 (goals hs)) None →
        (o : Option ℕ) → option_map_or {U = Option (ℕ × ℕ)} (λ arg. Some (i, arg)) o (whole_place v (suc i) (goals hs)) ≡ option_map_or {U = Option (ℕ × ℕ)} (λ p. Some (i + p.0, p.1)) (option_map_or {U = Option (ℕ × ℕ)} (λ arg. Some (0, arg)) o (whole_place v 1 (goals hs))) None
    go later first None = later ∙ shifted (whole_place v 0 (goals hs)) ∙ sym (ap (λ (x : Option (ℕ × ℕ)). option_map_or {U = Option (ℕ × ℕ)} (λ p. Some (i + p.0, p.1)) x None) first)
    go later first (Some arg) = let at : ℕ → Option (ℕ × ℕ) = λ k. Some (k, arg) in ap at (let z : i ≡ i + 0 = omega arith in z)

place-both : (v i : ℕ) (xs ys : List HeadTree) → whole_place v i (goals (xs ++ ys)) ≡ option_map_or (λ p. Some p) (whole_place v i (goals xs)) (whole_place v (i + length xs) (goals ys))
place-both v i [] ys = ap (λ k. whole_place v k (goals ys)) (let z : i ≡ i + 0 = omega arith in z)
place-both v i (x ∷ xs) ys = go (place-both v (suc i) xs ys) (whole_argument v x.goal)
  where
    go : whole_place v (suc i) (goals (xs ++ ys)) ≡ option_map_or (λ p. Some p) (whole_place v (suc i) (goals xs)) (whole_place v (suc i + length xs) (goals ys)) →
        (o : Option ℕ) → option_map_or {U = Option (ℕ × ℕ)} (λ arg. Some (i, arg)) o (whole_place v (suc i) (goals (xs ++ ys))) ≡ option_map_or (λ p. Some p) (option_map_or {U = Option (ℕ × ℕ)} (λ arg. Some (i, arg)) o (whole_place v (suc i) (goals xs))) (whole_place v (i + suc (length xs)) (goals ys))
    go later None = later ∙ ap (λ k. option_map_or (λ p. Some p) (whole_place v (suc i) (goals xs)) (whole_place v k (goals ys))) (let z : suc i + length xs ≡ i + suc (length xs) = omega arith in z)
    go later (Some arg) = refl

pub place-kept : (v : ℕ) (xs ys : List HeadTree) (p : ℕ × ℕ) → whole_place v 0 (goals xs) ≡ Some p → whole_place v 0 (goals (xs ++ ys)) ≡ Some p
place-kept v xs ys p e = place-both v 0 xs ys ∙ ap (λ (o : Option (ℕ × ℕ)). option_map_or (λ q. Some q) o (whole_place v (0 + length xs) (goals ys))) e

pub place-removed : (v : ℕ) (xs ys : List HeadTree) (o : Option (ℕ × ℕ)) → whole_place v 0 (goals xs) ≡ None → whole_place v 0 (goals ys) ≡ o → whole_place v 0 (goals (xs ++ ys)) ≡ option_map_or {U = Option (ℕ × ℕ)} (λ p. Some (length xs + p.0, p.1)) o None
place-removed v xs ys o e f =
    place-both v 0 xs ys ∙ ap (λ (r : Option (ℕ × ℕ)). option_map_or (λ q. Some q) r (whole_place v (0 + length xs) (goals ys))) e
    ∙ ap (λ k. whole_place v k (goals ys)) (let z : 0 + length xs ≡ length xs = omega arith in z)
    ∙ place-from v (length xs) ys ∙ ap (λ (r : Option (ℕ × ℕ)). option_map_or {U = Option (ℕ × ℕ)} (λ p. Some (length xs + p.0, p.1)) r None) f

-- what a function gives of the items so far, and of one more
pub filtered-more : {A B : Type 0} (f : A → Option B) (items xs : List A) (i : ℕ) (d : A) (ys : List B) → items ≡ xs → i < length items → ys ≡ filter_map f (take i xs) → ys ++ filter_map f (get_or items i d ∷ []) ≡ filter_map f (take (i + 1) xs)
filtered-more {A} {B} f items xs i d ys e l w =
    ap (λ (zs : List B). zs ++ filter_map f (get_or items i d ∷ [])) (w ∙ ap (λ (zs : List A). filter_map f (take i zs)) (sym e))
    ∙ sym (filter_map-append f (take i items) (get_or items i d ∷ []))
    ∙ sym (ap (filter_map f) (take_more items i d l))
    ∙ ap (λ (zs : List A). filter_map f (take (i + 1) zs)) e
