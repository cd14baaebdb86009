-- What iteration over a store's list gives.
use Rattle.std.specs.Prelude.{◌≡◌, ℕ, true, List, [], ◌∷◌, Option, Some, None}
use Rattle.dance_list.specs.declared.cells.Node.{Node}
use Rattle.suspend.specs.declared.constraint.Constraint.{Constraint}
use Rattle.suspend.specs.Store.{Event, stored_at, is_stored}

-- a number with its constraint before the rest, where there is one
abbrev pub with_constraint : {X : Type 0} → ℕ → Option (Constraint X) → List (ℕ × Constraint X) → List (ℕ × Constraint X)
with_constraint n None rest = rest
with_constraint n (Some c) rest = (n, c) ∷ rest

-- numbers of a list with their constraints
abbrev pub given : {X : Type 0} → List (ℕ × Constraint X) → List (Node × ℕ) → List (ℕ × Constraint X)
given es [] = []
given es (l ∷ ls) = with_constraint l.1 (stored_at es l.1) (given es ls)

-- each number is that of a stored constraint
abbrev pub AllStored : {X : Type 0} → List (Event X) → List (Node × ℕ) → Type 0
AllStored log [] = Unit {0}
AllStored log (l ∷ ls) = (is_stored log l.1 ≡ true) × AllStored log ls
