-- How a call may change a heap and its trail.
use Rattle.std.specs.Prelude.{◌≡◌, ℕ, List, ◌++◌, map, reverse}
use Rattle.level_terms.specs.declared.node.Node.{Node}
use Rattle.level_terms.specs.declared.node.Change.{Change}
use Rattle.level_terms.specs.Graph.{Graph, Assigned}

-- what the trail has of an assignment
abbrev pub change_of : Assigned → Change
change_of a = record { variable = record { index = a.variable } }

-- what the trail has of assignments, oldest first
abbrev pub changes_of : List Assigned → List Change
changes_of assigned = reverse (map change_of assigned)

-- nodes and variables are added alone, and each assignment is noted on the trail
pub record Grows (old new : Graph) (noted noted' : List Change) : Type 0 where
  pub new_nodes : List Node
  pub new_depths : List ℕ
  pub new_assigned : List Assigned
  pub nodes : new.nodes ≡ new_nodes ++ old.nodes
  pub depths : new.depths ≡ old.depths ++ new_depths
  pub assigned : new.assigned ≡ new_assigned ++ old.assigned
  pub trail : noted' ≡ noted ++ changes_of new_assigned
