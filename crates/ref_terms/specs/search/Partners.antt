-- Which constraints a pair of a rule can align.
use Rattle.std.specs.Prelude.{◌≡◌, ℕ, Option, Some, slice_get, option_and_then, List}
use Rattle.ref_terms.specs.declared.pair.Pair.{Pair}
use Rattle.ref_terms.specs.search.Branch.{Constraint}
use Rattle.ref_terms.specs.search.Joint.{argument}
use Rattle.ref_terms.specs.search.Waking.{heading}

-- the variable that heads an argument of the goal at a head
abbrev pub heading_at : List Constraint → (head argument : ℕ) → Option ℕ
heading_at cs h i = option_and_then heading (option_and_then (λ c. argument c i) (slice_get cs h))

-- one variable heads both arguments of the pair
abbrev pub Shares : List Constraint → Pair → Type 0
Shares cs p = (v : ℕ) × (heading_at cs p.left_head p.left_arg ≡ Some v) × (heading_at cs p.right_head p.right_arg ≡ Some v)
