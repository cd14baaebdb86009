-- What is identified, name by name.
use Rattle.std.proofs.Common.{◌≡◌, ℕ, zero, suc, ◌+◌, ◌<◌, ◌≤◌, Bool, true, false, not, ◌&&◌, cond, nat_eq, List, [], ◌∷◌, length, set, drop, get_or, slice_index, Option, Some, None, option_map, option_and_then, refl, sym, ap, ap₂, ◌∙◌, arith, eqb-true, eq-eqb, ne_eqb}
use Rattle.ref_terms.specs.search.Joint.{gets_joint, identified, paired}
use Rattle.eigen_align.specs.inside.Identified.{allowed, all_allowed}

-- past the name that gets the joint name the others are looked at alone
gets-passed : (own joint i : ℕ) (ms : List (Option ℕ)) → own < i → gets_joint own joint i ms ≡ cond (all_allowed own joint i ms) (Some ms) None
gets-passed own joint i [] h = refl
gets-passed own joint i (None ∷ ms) h =
    ap₂ (λ (b : Bool) (o : Option (List (Option ℕ))). option_map (λ (r : List (Option ℕ)). cond b (Some joint) None ∷ r) o) (ne_eqb own i (omega (arith, h))) (gets-passed own joint (suc i) ms (omega (arith, h)))
    ∙ mapped (all_allowed own joint (suc i) ms)
  where
    mapped : (b : Bool) → option_map (λ (r : List (Option ℕ)). None ∷ r) (cond b (Some ms) None) ≡ cond b (Some (None ∷ ms)) None
    mapped true = refl
    mapped false = refl
gets-passed own joint i (Some z ∷ ms) h =
    ap₂ (λ (b : Bool) (o : Option (List (Option ℕ))).
    cond b (cond (nat_eq joint z) (option_map (λ (r : List (Option ℕ)). Some z ∷ r) o) None) (cond (nat_eq joint z) None (option_map (λ (r : List (Option ℕ)). Some z ∷ r) o)))
    other (gets-passed own joint (suc i) ms (omega (arith, h)))
    ∙ go (nat_eq joint z) (all_allowed own joint (suc i) ms)
    ∙ sym (ap (λ (b : Bool). cond (cond b (nat_eq joint z) (not (nat_eq joint z)) && all_allowed own joint (suc i) ms) (Some (Some z ∷ ms)) None) other)
  where
    other : nat_eq own i ≡ false
    other = ne_eqb own i (omega (arith, h))

    go : (b c : Bool) → cond b None (option_map (λ (r : List (Option ℕ)). Some z ∷ r) (cond c (Some ms) None)) ≡ cond (not b && c) (Some (Some z ∷ ms)) None
    go true c = refl
    go false true = refl
    go false false = refl

-- a joint name is given to the k-th name from here, where what all names have allows it
gets-given : (k joint i own : ℕ) (ms : List (Option ℕ)) → own ≡ i + k → k < length ms → gets_joint own joint i ms ≡ cond (all_allowed own joint i ms) (Some (set ms k (Some joint))) None
gets-given k joint i own [] e h = absurd (omega (arith, h))
gets-given zero joint i own (None ∷ ms) e h =
    ap₂ (λ (b : Bool) (o : Option (List (Option ℕ))). option_map (λ (r : List (Option ℕ)). cond b (Some joint) None ∷ r) o) (eq-eqb own i (omega (arith, e))) (gets-passed own joint (suc i) ms (omega (arith, e)))
    ∙ mapped (all_allowed own joint (suc i) ms)
  where
    mapped : (b : Bool) → option_map (λ (r : List (Option ℕ)). Some joint ∷ r) (cond b (Some ms) None) ≡ cond b (Some (Some joint ∷ ms)) None
    mapped true = refl
    mapped false = refl
gets-given zero joint i own (Some z ∷ ms) e h =
    ap₂ (λ (b : Bool) (o : Option (List (Option ℕ))).
    cond b (cond (nat_eq joint z) (option_map (λ (r : List (Option ℕ)). Some z ∷ r) o) None) (cond (nat_eq joint z) None (option_map (λ (r : List (Option ℕ)). Some z ∷ r) o)))
    same (gets-passed own joint (suc i) ms (omega (arith, e)))
    ∙ go (nat_eq joint z) refl (all_allowed own joint (suc i) ms)
    ∙ sym (ap (λ (b : Bool). cond (cond b (nat_eq joint z) (not (nat_eq joint z)) && all_allowed own joint (suc i) ms) (Some (Some joint ∷ ms)) None) same)
  where
    same : nat_eq own i ≡ true
    same = eq-eqb own i (omega (arith, e))

    go : (b : Bool) → nat_eq joint z ≡ b → (c : Bool) → cond b (option_map (λ (r : List (Option ℕ)). Some z ∷ r) (cond c (Some ms) None)) None ≡ cond (b && c) (Some (Some joint ∷ ms)) None
    go true q true = ap (λ (x : ℕ). Some (Some x ∷ ms)) (sym (eqb-true joint z q))
    go true q false = refl
    go false q c = refl
gets-given (suc k) joint i own (None ∷ ms) e h =
    ap₂ (λ (b : Bool) (o : Option (List (Option ℕ))). option_map (λ (r : List (Option ℕ)). cond b (Some joint) None ∷ r) o) (ne_eqb own i (omega (arith, e))) (gets-given k joint (suc i) own ms (omega (arith, e)) (omega (arith, h)))
    ∙ mapped (all_allowed own joint (suc i) ms)
  where
    mapped : (b : Bool) → option_map (λ (r : List (Option ℕ)). None ∷ r) (cond b (Some (set ms k (Some joint))) None) ≡ cond b (Some (None ∷ set ms k (Some joint))) None
    mapped true = refl
    mapped false = refl
gets-given (suc k) joint i own (Some z ∷ ms) e h =
    ap₂ (λ (b : Bool) (o : Option (List (Option ℕ))).
    cond b (cond (nat_eq joint z) (option_map (λ (r : List (Option ℕ)). Some z ∷ r) o) None) (cond (nat_eq joint z) None (option_map (λ (r : List (Option ℕ)). Some z ∷ r) o)))
    other (gets-given k joint (suc i) own ms (omega (arith, e)) (omega (arith, h)))
    ∙ go (nat_eq joint z) (all_allowed own joint (suc i) ms)
    ∙ sym (ap (λ (b : Bool). cond (cond b (nat_eq joint z) (not (nat_eq joint z)) && all_allowed own joint (suc i) ms) (Some (Some z ∷ set ms k (Some joint))) None) other)
  where
    other : nat_eq own i ≡ false
    other = ne_eqb own i (omega (arith, e))

    go : (b c : Bool) → cond b None (option_map (λ (r : List (Option ℕ)). Some z ∷ r) (cond c (Some (set ms k (Some joint))) None)) ≡ cond (not b && c) (Some (Some z ∷ set ms k (Some joint))) None
    go true c = refl
    go false true = refl
    go false false = refl

pub gets-set : (own joint : ℕ) (ms : List (Option ℕ)) → own < length ms → all_allowed own joint 0 ms ≡ true → Some (set ms own (Some joint)) ≡ gets_joint own joint 0 ms
gets-set own joint ms h e = sym (gets-given own joint 0 own ms (omega arith) h ∙ ap (λ (b : Bool). cond b (Some (set ms own (Some joint))) None) e)

pub gets-none : (own joint : ℕ) (ms : List (Option ℕ)) → own < length ms → all_allowed own joint 0 ms ≡ false → None ≡ gets_joint own joint 0 ms
gets-none own joint ms h e = sym (gets-given own joint 0 own ms (omega arith) h ∙ ap (λ (b : Bool). cond b (Some (set ms own (Some joint))) None) e)

-- one more name that allows it, and one that doesn't
pub at-front : {X : Type 0} (xs : List X) (i : ℕ) (d : X) → i < length xs → drop i xs ≡ get_or xs i d ∷ drop (suc i) xs
at-front [] i d h = absurd (omega (arith, h))
at-front (x ∷ xs) zero d h = refl
at-front (x ∷ xs) (suc i) d h = at-front xs i d (omega (arith, h))

pub allowed-next : (own joint i : ℕ) (ms : List (Option ℕ)) (d : Option ℕ) (b : Bool) → i < length ms → b ≡ allowed (nat_eq own i) joint (get_or ms i d) → all_allowed own joint i (drop i ms) ≡ (b && all_allowed own joint (suc i) (drop (suc i) ms))
allowed-next own joint i ms d b h e = ap (all_allowed own joint i) (at-front ms i d h) ∙ ap (λ (c : Bool). c && all_allowed own joint (suc i) (drop (suc i) ms)) (sym e)

-- what failed stays so
pub identified-none : (left : List ℕ) (ps : List (ℕ × ℕ)) → identified left ps None ≡ None
identified-none left [] = refl
identified-none left (p ∷ ps) = identified-none left ps

-- spines of unequal length
pub unequal : (xs ys : List ℕ) → (length xs ≡ length ys → ⊥) → paired xs ys ≡ None
unequal [] [] h = absurd (h refl)
unequal [] (y ∷ ys) h = refl
unequal (x ∷ xs) [] h = refl
unequal (x ∷ xs) (y ∷ ys) h = ap (option_map (λ (ps : List (ℕ × ℕ)). (x, y) ∷ ps)) (unequal xs ys (λ e. h (ap suc e)))

-- one more place of two spines
pub identified-next : (map : List ℕ) (xs ys : List ℕ) (x y : ℕ) (o : Option (List (Option ℕ))) → option_and_then (λ ps. identified map ps o) (paired (x ∷ xs) (y ∷ ys)) ≡
    option_and_then (λ ps. identified map ps (option_and_then (gets_joint y (slice_index map x) 0) o)) (paired xs ys)
identified-next map xs ys x y o = go (paired xs ys)
  where
    go : (q : Option (List (ℕ × ℕ))) → option_and_then (λ ps. identified map ps o) (option_map (λ (ps : List (ℕ × ℕ)). (x, y) ∷ ps) q) ≡ option_and_then (λ ps. identified map ps (option_and_then (gets_joint y (slice_index map x) 0) o)) q
    go None = refl
    go (Some ps) = refl

-- where it fails, it fails whatever follows
pub identified-fails : (map : List ℕ) (q : Option (List (ℕ × ℕ))) → option_and_then (λ ps. identified map ps None) q ≡ None
identified-fails map None = refl
identified-fails map (Some ps) = identified-none map ps

-- what is identified from one place on, by what its names get
pub identified-step : (map left right : List ℕ) (i : ℕ) (cur : List (Option ℕ)) (o : Option (List (Option ℕ))) → i < length left → i < length right → o ≡ gets_joint (get_or right i 0) (slice_index map (get_or left i 0)) 0 cur →
    option_and_then (λ ps. identified map ps (Some cur)) (paired (drop i left) (drop i right)) ≡ option_and_then (λ ps. identified map ps o) (paired (drop (suc i) left) (drop (suc i) right))
identified-step map left right i cur o l r e =
    ap₂ (λ (xs ys : List ℕ). option_and_then (λ ps. identified map ps (Some cur)) (paired xs ys)) (at-front left i 0 l) (at-front right i 0 r)
    ∙ identified-next map (drop (suc i) left) (drop (suc i) right) (get_or left i 0) (get_or right i 0) (Some cur)
    ∙ ap (λ (q : Option (List (Option ℕ))). option_and_then (λ ps. identified map ps q) (paired (drop (suc i) left) (drop (suc i) right))) (sym e)

-- past the end nothing is left
pub drop-end : {X : Type 0} (xs : List X) (i : ℕ) → length xs ≤ i → drop i xs ≡ []
drop-end [] zero h = refl
drop-end [] (suc i) h = refl
drop-end (x ∷ xs) zero h = absurd (omega (arith, h))
drop-end (x ∷ xs) (suc i) h = drop-end xs i (omega (arith, h))

pub identified-end : (map left right : List ℕ) (i : ℕ) (cur : List (Option ℕ)) → length left ≤ i → length right ≤ i → Some cur ≡ option_and_then (λ ps. identified map ps (Some cur)) (paired (drop i left) (drop i right))
identified-end map left right i cur l r = sym (ap₂ (λ (xs ys : List ℕ). option_and_then (λ ps. identified map ps (Some cur)) (paired xs ys)) (drop-end left i l) (drop-end right i r))
