-- A variable at its own depth.
use Rattle.std.specs.Prelude.{◌≡◌, ℕ, ◌≤◌, Some, slice_index}
use Rattle.level_terms.specs.declared.node.Node.TheVariants.{Var}
use Rattle.level_terms.specs.declared.node.VarId.{VarId}
use Rattle.level_terms.specs.Graph.{Graph, node_at}
use Rattle.pattern_unify.specs.Bound.{IsOpen}

-- the node is an assignable variable without a value, which isn't below the mark and was made at the depth
pub record IsOwn (g : Graph) (mark depth t : ℕ) (v : VarId) : Type 0 where
  pub node : node_at g.nodes t ≡ Some (Var v)
  pub variable : IsOpen g v.index
  pub assignable : mark ≤ v.index
  pub levels : slice_index g.depths v.index ≡ depth
