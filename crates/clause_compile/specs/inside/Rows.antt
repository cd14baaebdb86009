-- Variables that were made in a row.
use Rattle.std.specs.Prelude.{◌≡◌, ℕ, ◌+◌, ◌<◌, List, length, get_or}
use Rattle.level_terms.specs.declared.node.TermId.{TermId}
use Rattle.level_terms.specs.Graph.{Graph}
use Rattle.level_terms.specs.Sound.{AllOlder}
use Rattle.level_terms.specs.Values.{value_of, IsVarOf}

-- nodes of variables that are numbered from `next` on and were made at a depth
pub record IsRow (g : Graph) (depth next : ℕ) (variables : List TermId) : Type 0 where
  pub there : AllOlder (length g.nodes) variables
  pub are : (v : ℕ) → v < length variables → IsVarOf (next + v) depth (value_of g (get_or variables v (record { index = 0 })))
