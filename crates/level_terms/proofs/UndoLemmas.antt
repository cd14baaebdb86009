-- Taking assignments, nodes and variables back.
use Rattle.std.proofs.Common.{◌≡◌, ℕ, zero, suc, ◌<◌, ◌≤◌, ◌+◌, ◌-◌, List, [], ◌∷◌, ◌++◌, length, reverse, map, cond, nat_eq, nat_lt, Bool, true, false, is_some, Option, Some, None, option_map, refl, sym, ap, ap₂, ◌∙◌, arith, set, take, drop, ne_eqb, eqb-true, sum_by, length-drop, get_or, ltb-true, ltb-false}
use Rattle.std.proofs.Math.Seq.{drop-append_seam}
use Rattle.std.proofs.lemmas.List.{map-append, reverse-append, length-reverse, take-append-drop}
use Rattle.std.proofs.lemmas.List.Sums.{sum_by-take-drop, sum_by-append}
use Rattle.std.proofs.lemmas.Bool.Decides.{nat_tests}
use Rattle.level_terms.specs.declared.heap.Cell.{Cell}
use Rattle.level_terms.specs.declared.heap.Binding.{Binding}
use Rattle.level_terms.specs.declared.node.TermId.{TermId}
use Rattle.level_terms.specs.Graph.{Assigned, value_in}
use Rattle.level_terms.specs.Sound.{AllAssigned}
use Rattle.level_terms.specs.HeapView.{cell_value, free_count, assigned_by}

pub cell_value-some : (cells : List Cell) (v t : ℕ) → cell_value cells v ≡ Some t → v < length cells
cell_value-some [] v t e = absurd (let z : None ≡ Some t = e in cc)
cell_value-some (c ∷ cells) zero t e = omega arith
cell_value-some (c ∷ cells) (suc v) t e = let h : v < length cells = cell_value-some cells v t e in omega arith

nat_eq-suc : (a b : ℕ) → nat_eq a b ≡ nat_eq (suc a) (suc b)
nat_eq-suc a b = grind (arith, nat_tests)

pub cell_value-unset : (cells : List Cell) (v : ℕ) (c : Cell) (w : ℕ) → c.value ≡ None → cell_value (set cells v c) w ≡ cond (nat_eq v w) None (cell_value cells w)
cell_value-unset [] v c w e = go (nat_eq v w)
  where
    go : (b : Bool) → ◌≡◌ {A = Option ℕ} None (cond b None None)
    go true = refl
    go false = refl
cell_value-unset (d ∷ cells) zero c zero e = rw e refl
cell_value-unset (d ∷ cells) zero c (suc w) e = rw (ne_eqb 0 (suc w) (omega arith)) refl
cell_value-unset (d ∷ cells) (suc v) c zero e = rw (ne_eqb (suc v) 0 (omega arith)) refl
cell_value-unset (d ∷ cells) (suc v) c (suc w) e = cell_value-unset cells v c w e ∙ ap (λ b. cond b None (cell_value cells w)) (nat_eq-suc v w)

pub newest : (bs : List Binding) (b : Binding) → reverse (map assigned_by (bs ++ b ∷ [])) ≡ assigned_by b ∷ reverse (map assigned_by bs)
newest bs b = ap reverse (map-append assigned_by bs (b ∷ [])) ∙ reverse-append (map assigned_by bs) (assigned_by b ∷ [])

-- without the newest assignment
pub popped : (a : Assigned) (older : List Assigned) (o : Option ℕ) (w : ℕ) → value_in older a.variable ≡ None → o ≡ cond (nat_eq a.variable w) (Some a.value) (value_in older w) → cond (nat_eq a.variable w) None o ≡ value_in older w
popped a older o w f e = go (nat_eq a.variable w) refl e
  where
    go : (b : Bool) → nat_eq a.variable w ≡ b → o ≡ cond b (Some a.value) (value_in older w) → cond b None o ≡ value_in older w
    go true q e = let k : a.variable ≡ w = eqb-true _ _ q in sym f ∙ ap (value_in older) k
    go false q e = e

-- below a number of variables
pub cell_value-take : (cells : List Cell) (k w : ℕ) → w < k → cell_value (take k cells) w ≡ cell_value cells w
cell_value-take cells zero w h = absurd (omega arith)
cell_value-take [] (suc k) w h = refl
cell_value-take (c ∷ cells) (suc k) zero h = refl
cell_value-take (c ∷ cells) (suc k) (suc w) h = cell_value-take cells k w (omega arith)

pub cell_value-past : (cells : List Cell) (k w : ℕ) → k ≤ w → cell_value (take k cells) w ≡ None
cell_value-past cells zero w h = refl
cell_value-past [] (suc k) w h = refl
cell_value-past (c ∷ cells) (suc k) zero h = absurd (omega arith)
cell_value-past (c ∷ cells) (suc k) (suc w) h = cell_value-past cells k w (omega arith)

pub value_in-past : (n : ℕ) (bs : List Assigned) (k w : ℕ) → AllAssigned n k bs → k ≤ w → value_in bs w ≡ None
value_in-past n [] k w b h = refl
value_in-past n (a ∷ bs) k w b h =
    let lt : a.variable < k = b.1 in
    let other : nat_eq a.variable w ≡ false = ne_eqb a.variable w (omega arith) in
    ap (λ t. cond t (Some a.value) (value_in bs w)) other ∙ value_in-past n bs k w b.2 h

pub cell_value-drop : (cells : List Cell) (k w : ℕ) → cell_value (drop k cells) w ≡ cell_value cells (k + w)
cell_value-drop cells zero w = let e : w ≡ 0 + w = omega arith in ap (cell_value cells) e
cell_value-drop [] (suc k) w = refl
cell_value-drop (c ∷ cells) (suc k) w = cell_value-drop cells k w ∙ ap (cell_value (c ∷ cells)) (let e : suc (k + w) ≡ suc k + w = omega arith in e)

all_free : (cells : List Cell) → ((w : ℕ) → cell_value cells w ≡ None) → sum_by free_count cells ≡ length cells
all_free [] h = refl
all_free (c ∷ cells) h =
    let one : free_count c ≡ 1 = go c.value (h 0) in
    let more = all_free cells (λ w. h (suc w)) in
    let both = sum_by-append free_count (c ∷ []) cells in
    let alone : sum_by free_count (c ∷ []) ≡ free_count c = omega arith in
    omega (arith, one, more, both, alone)
  where
    go : (o : Option TermId) → option_map (λ t. t.index) o ≡ None → cond {A = ℕ} (is_some o) 0 1 ≡ 1
    go None e = refl
    go (Some t) e = absurd (let k : Some t.index ≡ None = e in cc)

-- the variables past the mark have no value
pub count-take : (cells : List Cell) (k : ℕ) → k ≤ length cells → ((w : ℕ) → k ≤ w → cell_value cells w ≡ None) → sum_by free_count (take k cells) + (length cells - k) ≡ sum_by free_count cells
count-take cells k h none =
    let parts = sum_by-take-drop free_count cells k in
    let free = all_free (drop k cells) (λ w. cell_value-drop cells k w ∙ none (k + w) (omega arith)) in
    omega (arith, parts, free, length-drop k cells)

pub reverse-take : {A : Type 0} (n : ℕ) (xs : List A) → n ≤ length xs → reverse (take n xs) ≡ drop (length xs - n) (reverse xs)
reverse-take n xs h =
    let parts = take-append-drop n xs in
    let back : reverse xs ≡ reverse (drop n xs) ++ reverse (take n xs) = sym (ap reverse parts) ∙ reverse-append (take n xs) (drop n xs) in
    let long : length xs - n ≡ length (reverse (drop n xs)) = omega (arith, length-reverse (drop n xs), length-drop n xs) in
    sym (ap₂ drop long back ∙ drop-append_seam (reverse (drop n xs)) (reverse (take n xs)))

pub values_after : (n : ℕ) (cells : List Cell) (bs : List Assigned) (k : ℕ) → ((v : ℕ) → cell_value cells v ≡ value_in bs v) → AllAssigned n k bs → (w : ℕ) → cell_value (take k cells) w ≡ value_in bs w
values_after n cells bs k same below w = go (nat_lt w k) refl
  where
    go : (b : Bool) → nat_lt w k ≡ b → cell_value (take k cells) w ≡ value_in bs w
    go true q = cell_value-take cells k w (ltb-true w k q) ∙ same w
    go false q = let h : k ≤ w = ltb-false w k q in cell_value-past cells k w h ∙ sym (value_in-past n bs k w below h)

-- a variable with a value isn't counted
pub held_at : (cells : List Cell) (v t : ℕ) (d : Cell) → cell_value cells v ≡ Some t → free_count (get_or cells v d) ≡ 0
held_at [] v t d e = absurd (let k : None ≡ Some t = e in cc)
held_at (x ∷ cells) zero t d e = go x.value e
  where
    go : (o : Option TermId) → option_map (λ t. t.index) o ≡ Some t → cond {A = ℕ} (is_some o) 0 1 ≡ 0
    go None e = absurd (let k : None ≡ Some t = e in cc)
    go (Some y) e = refl
held_at (x ∷ cells) (suc v) t d e = held_at cells v t d e

pub drop_next : (bs : List Assigned) (k : ℕ) (a : Assigned) (older : List Assigned) → drop k bs ≡ a ∷ older → drop (suc k) bs ≡ older
drop_next [] zero a older e = absurd (let z : ◌≡◌ {A = List Assigned} [] (a ∷ older) = e in cc)
drop_next [] (suc k) a older e = absurd (let z : ◌≡◌ {A = List Assigned} [] (a ∷ older) = e in cc)
drop_next (x ∷ bs) zero a older e = let z : x ∷ bs ≡ a ∷ older = e in cc
drop_next (x ∷ bs) (suc k) a older e = drop_next bs k a older e
