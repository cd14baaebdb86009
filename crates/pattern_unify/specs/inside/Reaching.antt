-- Nodes that are still to be looked at, where it is seen whether a variable is reached from a node.
use Rattle.std.specs.Prelude.{◌≡◌, ℕ, List, [], ◌∷◌, ◌++◌, Option, Some, None}
use Rattle.level_terms.specs.declared.node.Node.{Node}
use Rattle.level_terms.specs.declared.node.Node.TheVariants.{Lam, App, Var}
use Rattle.level_terms.specs.declared.node.TermId.{TermId}
use Rattle.level_terms.specs.Graph.{Graph, node_at, value_in}
use Rattle.level_terms.specs.GroundNormal.{IsGroundNormal}
use Rattle.level_terms.specs.Reached.{IsUnreached}

-- a value, if there is one
abbrev pub value_node : Option ℕ → List TermId
value_node None = []
value_node (Some t) = record { index = t } ∷ []

-- the nodes that are reached from a node at once: its parts, or a variable's value
abbrev pub next_nodes : Graph → Node → List TermId
next_nodes g (Lam d b) = b ∷ []
next_nodes g (App h ts) = h ∷ ts
next_nodes g (Var v) = value_node (value_in g.assigned v.index)
next_nodes g _ = []

-- the nodes that are reached from a node at once come after the work that is left
pub record HasNext (g : Graph) (t : ℕ) (rest later : List TermId) : Type 0 where
  pub node : Node
  pub here : node_at g.nodes t ≡ Some node
  pub pushed : later ≡ rest ++ next_nodes g node

-- what is left after a look at a node: none is added where neither a variable nor an applied abstraction stands in it
pub data IsLeft (g : Graph) (t : ℕ) (rest later : List TermId) : Type 0 where
  bare : IsGroundNormal g t → later ≡ rest → IsLeft g t rest later
  with_next : HasNext g t rest later → IsLeft g t rest later

-- the variable is reached from none of these
abbrev pub AllUnreached : Graph → (v : ℕ) → List TermId → Type 0
AllUnreached g v [] = Unit {0}
AllUnreached g v (t ∷ ts) = IsUnreached g v t.index × AllUnreached g v ts
