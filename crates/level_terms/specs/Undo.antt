-- Marks, and what undoing to one leaves.
use Rattle.std.specs.Prelude.{◌≡◌, ◌-◌, ◌≤◌, List, length, drop, take}
use Rattle.level_terms.specs.declared.node.Change.{Change}
use Rattle.level_terms.specs.declared.node.HeapMark.{HeapMark}
use Rattle.level_terms.specs.Graph.{Graph}
use Rattle.level_terms.specs.Growth.{changes_of}
use Rattle.level_terms.specs.Sound.{AllMade, AllAssigned}

-- how much there is of a heap
abbrev pub mark_of : Graph → HeapMark
mark_of g = record { nodes = length g.nodes; variables = length g.depths; entries = length g.assigned }

-- the heap without what is past the mark
abbrev pub undone : HeapMark → Graph → Graph
undone m g = record { nodes = drop (length g.nodes - m.nodes) g.nodes; depths = take m.variables g.depths; assigned = drop (length g.assigned - m.entries) g.assigned }

-- the trail lists the variables that were assigned, in that order
abbrev pub IsTrailOf : Graph → List Change → Type 0
IsTrailOf g noted = noted ≡ changes_of g.assigned

-- the mark isn't past what there is
pub record IsWithin (m : HeapMark) (g : Graph) : Type 0 where
  pub nodes : m.nodes ≤ length g.nodes
  pub variables : m.variables ≤ length g.depths
  pub entries : m.entries ≤ length g.assigned

-- what stays names nothing that is dropped
pub record IsClosed (m : HeapMark) (g : Graph) : Type 0 where
  pub nodes : AllMade m.variables (undone m g).nodes
  pub assigned : AllAssigned m.nodes m.variables (undone m g).assigned

-- the three conditions under which a heap goes back to a mark
pub record CanUndo (m : HeapMark) (g : Graph) (noted : List Change) : Type 0 where
  pub own : IsTrailOf g noted
  pub within : IsWithin m g
  pub closed : IsClosed m g
