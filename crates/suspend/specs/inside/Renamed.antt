-- A variable that became another one.
use Rattle.std.specs.Prelude.{◌≡◌, ℕ, slice_index, Some, None}
use Rattle.level_terms.specs.declared.node.VarId.{VarId}
use Rattle.level_terms.specs.declared.node.Node.TheVariants.{Var}
use Rattle.level_terms.specs.Graph.{Graph, node_at, value_in}

-- the node is this variable, which has neither levels nor a value
pub record IsFreeVariable (g : Graph) (t u : ℕ) : Type 0 where
  pub variable : VarId
  pub number : variable.index ≡ u
  pub node : node_at g.nodes t ≡ Some (Var variable)
  pub without_levels : slice_index g.depths variable.index ≡ 0
  pub free : value_in g.assigned variable.index ≡ None

-- the value of the first variable is the second one
pub record BecomesVariable (g : Graph) (v u : ℕ) : Type 0 where
  pub value : ℕ
  pub without_levels : slice_index g.depths v ≡ 0
  pub assigned : value_in g.assigned v ≡ Some value
  pub free : IsFreeVariable g value u
