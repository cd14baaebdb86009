-- What is demanded of the types of nodes.
use Rattle.std.specs.Prelude.{ℕ, ◌≤◌, List, length, map, Bool, true, false}
use Rattle.ref_terms.specs.declared.tree.Tree.{Tree}
use Rattle.type_graph.specs.declared.node.Node.{Node}
use Rattle.type_graph.specs.declared.node.Word.TheVariants as word
use Rattle.type_graph.specs.Types.{Ty, word, applied}
use Rattle.type_graph.specs.Graph.{Solves, node_at}
use Rattle.type_graph.specs.Solved.{Below}
use Rattle.type_terms.specs.Typing.{IsAt}
use Rattle.type_terms.specs.Read.{Scope, HasTree, HasApplied}

-- the new nodes have the solutions of the old ones under which C holds
pub record Meets (ns ns' : List Node) (C : (ℕ → Ty) → Type 0) : Type 0 where
  pub longer : length ns ≤ length ns'
  pub back : (v : ℕ → Ty) → Solves (node_at ns') v → Solves (node_at ns) v
  pub sound : (v : ℕ → Ty) → Solves (node_at ns') v → C v
  pub complete : (v : ℕ → Ty) → Solves (node_at ns) v → C v → (w : ℕ → Ty) × Solves (node_at ns') w × Below (length ns) v w

-- the same; no: C holds under no solution of the old nodes
abbrev pub Demands : (ns ns' : List Node) → ((ℕ → Ty) → Type 0) → Bool → Type 0
Demands ns ns' C true = Meets ns ns' C
Demands ns ns' C false = (v : ℕ → Ty) → Solves (node_at ns) v → C v → ⊥

-- the tree has the type of propositions
abbrev pub IsGoal : Scope → Tree → (ℕ → Ty) → Type 0
IsGoal s t v = HasTree s t v (word word.Prop)

-- the constant, applied to these trees, has the type of propositions
abbrev pub IsAppliedGoal : Scope → (constant : ℕ) → List Tree → (ℕ → Ty) → Type 0
IsAppliedGoal s c args v = HasApplied s c args v (word word.Prop)

-- the variable has the type of lists of propositions
abbrev pub IsContext : (variables : List ℕ) → ℕ → (ℕ → Ty) → Type 0
IsContext variables x v = IsAt (map v variables) x (applied (word word.List) (word word.Prop))

-- both variables have one type
abbrev pub IsPair : (variables : List ℕ) → ℕ → ℕ → (ℕ → Ty) → Type 0
IsPair variables x y v = (t : Ty) × IsAt (map v variables) x t × IsAt (map v variables) y t
