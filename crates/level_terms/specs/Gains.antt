-- How a call that makes nodes alone changes a heap.
use Rattle.std.specs.Prelude.{◌≡◌, []}
use Rattle.level_terms.specs.Graph.{Graph}
use Rattle.level_terms.specs.Growth.{Grows}

-- nodes are added alone: no variable is made, and nothing is assigned
pub record GainsNodes (old new : Graph) : Type 0 where
  pub variables : new.depths ≡ old.depths
  pub grows : Grows old new [] []
