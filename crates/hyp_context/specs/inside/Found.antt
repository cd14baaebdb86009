-- What is found in a table.
use Rattle.std.specs.Prelude.{◌≡◌, ℕ, ◌-◌, ◌/◌, ◌%◌, ◌&&◌, Bool, not, cond, nat_eq, List, [], ◌∷◌}
use Rattle.hyp_clause.specs.declared.hyp.Hyp.{Hyp}
use Rattle.hyp_context.specs.declared.table.Table.{Table, Empty, Fork'}
use Rattle.hyp_context.specs.declared.table.Lists.{Lists}
use Rattle.hyp_context.specs.Contexts.{hyps_for}
use Rattle.hyp_context.specs.inside.Items.{items_of}

-- the number in the table of those with the same last digit
abbrev pub halved : ℕ → ℕ
halved n = (n - 1) / 2

-- both are above 0, if k is, and have the same last digit
abbrev pub same_digit : ℕ → ℕ → Bool
same_digit n k = not (nat_eq n 0) && nat_eq (n % 2) (k % 2)

-- by the last digit: what there is for 0, and what there is for a half, if the number is odd or even
abbrev pub by_digit : {A : Type 0} → A → (odd even : ℕ → A) → ℕ → A
by_digit first odd even n = cond (nat_eq n 0) first (cond (nat_eq (n % 2) 1) (odd (halved n)) (even (halved n)))

-- the list of a number
abbrev pub found_in : Table → ℕ → List Hyp
found_in Empty n = []
found_in (Fork' p first odd even) n = by_digit (items_of first) (found_in odd) (found_in even) n

-- so in the parts of a table
abbrev pub found_at : Lists → ℕ → List Hyp
found_at l n = by_digit (items_of l.first) (found_in l.odd) (found_in l.even) n

-- one more at the front of a number's list, and the other lists as they were
abbrev pub HasOneMore : Table → ℕ → Hyp → Table → Type 0
HasOneMore old k h new = (n : ℕ) → found_in new n ≡ cond (nat_eq n k) (h ∷ found_in old n) (found_in old n)

-- each predicate's list has its assumptions
abbrev pub IsTable : Table → List Hyp → Type 0
IsTable t hyps = (p : ℕ) → found_in t p ≡ hyps_for p hyps
