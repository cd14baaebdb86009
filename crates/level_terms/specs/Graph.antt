-- What contracts see of a heap.
use Rattle.std.specs.Prelude.{ℕ, List, [], ◌∷◌, Option, Some, None, cond, nat_eq, length}
use Rattle.level_terms.specs.declared.node.Node.{Node}

-- a variable that has a value, and the node that is its value
pub record Assigned : Type 0 where
  pub variable : ℕ
  pub value : ℕ

-- the nodes newest first, the depth of each variable, oldest first, and the assignments newest first
pub record Graph : Type 0 where
  pub nodes : List Node
  pub depths : List ℕ
  pub assigned : List Assigned

-- the value of a variable, if it has one
abbrev pub value_in : List Assigned → ℕ → Option ℕ
value_in [] v = None
value_in (a ∷ older) v = cond (nat_eq a.variable v) (Some a.value) (value_in older v)

-- the node with a number, which is how many nodes are older
abbrev pub node_at : List Node → ℕ → Option Node
node_at [] t = None
node_at (n ∷ older) t = cond (nat_eq (length older) t) (Some n) (node_at older t)
