-- What calls on a stage and on a machine change.
use Rattle.std.specs.Prelude.{◌≡◌, List}
use Rattle.level_terms.specs.declared.node.Change.{Change}
use Rattle.level_terms.specs.Graph.{Graph}
use Rattle.level_terms.specs.Growth.{Grows}
use Rattle.suspend.specs.Store.{IsLater, SameStore}
use Rattle.suspend.specs.Keyed.{Keyed}
use Rattle.search_moves.specs.World.{World}

-- the heap grows, and its trail with it
pub record Growing (g h : Graph) : Type 0 where
  pub before : List Change
  pub after : List Change
  pub grows : Grows g h before after

-- all but the heap stays: so does what is public of the store, and what it knows of its keys holds in the new heap
pub record LeavesRest (w w' : World) : Type 0 where
  pub frames : w'.frames ≡ w.frames
  pub path : w'.path ≡ w.path
  pub query : w'.query ≡ w.query
  pub base : w'.base ≡ w.base
  pub later : IsLater w.log w'.log
  pub store : SameStore w.log w'.log
  pub keyed : Keyed w.log w.heap → Keyed w'.log w'.heap
