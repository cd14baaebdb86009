-- New nodes that may have any types.
use Rattle.std.specs.Prelude.{◌≡◌, ℕ, ◌≤◌, List, length, map}
use Rattle.type_graph.specs.declared.node.Node.{Node}
use Rattle.type_graph.specs.Types.{Ty}
use Rattle.type_graph.specs.Graph.{Solves, node_at}
use Rattle.type_graph.specs.Solved.{Below}
use Rattle.type_terms.specs.Read.{AreNodes}

-- so many new nodes, which may have any types
pub record Frees (ns : List Node) (count : ℕ) (nodes : List ℕ) (ns' : List Node) : Type 0 where
  pub longer : length ns ≤ length ns'
  pub each : length nodes ≡ count
  pub nodes_in : AreNodes ns' nodes
  pub back : (v : ℕ → Ty) → Solves (node_at ns') v → Solves (node_at ns) v
  pub on : (v : ℕ → Ty) (ts : List Ty) → Solves (node_at ns) v → length ts ≡ count → (w : ℕ → Ty) × Solves (node_at ns') w × Below (length ns) v w × (map w nodes ≡ ts)
