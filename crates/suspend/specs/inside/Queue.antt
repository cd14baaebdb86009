-- Numbers with the least one first.
use Rattle.std.specs.Prelude.{◌≡◌, ℕ, ◌<◌, ◌≤◌, true, false, ◌||◌, nat_eq, List, map, length}
use Rattle.std.specs.Ordering.{nat_cmp}
use Rattle.std.specs.BinaryHeap.{IsHeap, heap_items}
use Rattle.std.specs.declared.collections.binary_heap.BinaryHeap.{BinaryHeap}
use Rattle.std.specs.declared.cmp.Reverse.{Reverse}
use Rattle.suspend.specs.Store.{has}

-- the numbers of a heap, and its order: the least number is at the top
abbrev pub numbers_of : {Z : Type 0} → BinaryHeap (Reverse ℕ) Z → List ℕ
numbers_of h = map (λ r. r.0) (heap_items h)

abbrev pub IsInOrder : {Z : Type 0} → BinaryHeap (Reverse ℕ) Z → Type 0
IsInOrder h = IsHeap (λ x y. nat_cmp y.0 x.0) (heap_items h)

-- the number is one of these, and none is less
abbrev pub IsLeast : List ℕ → ℕ → Type 0
IsLeast ns n = (has ns n ≡ true) × ((m : ℕ) → has ns m ≡ true → n ≤ m)

-- the number was put in
abbrev pub Gets : (old : List ℕ) → ℕ → (new : List ℕ) → Type 0
Gets old n new = (m : ℕ) → has new m ≡ (nat_eq m n || has old m)

-- the number was the least one, and was taken out once
abbrev pub Gives : (old : List ℕ) → ℕ → (new : List ℕ) → Type 0
Gives old n new = IsLeast old n × Gets new n old × (length new < length old)

-- the number was taken out, and the others stay
abbrev pub Leaves : (old : List ℕ) → ℕ → (new : List ℕ) → Type 0
Leaves old n new = ((m : ℕ) → nat_eq m n ≡ false → has old m ≡ true → has new m ≡ true) × (length new < length old)
