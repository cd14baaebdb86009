-- What a machine keeps, as contracts see it.
use Rattle.ref_terms.specs.search.Program.{Program}
use Rattle.search_moves.specs.World.{code_nodes}
use Rattle.goal_run.specs.declared.machine.Machine.TheInside.{Inside}
use Rattle.goal_run.specs.inside.Code.{Stands, IsLaidOut}
use Rattle.goal_run.specs.Machine.{Machine}

-- the machine, as contracts see it
abbrev pub machine_of : Inside → Machine
machine_of m = record { moves = m.moves; code = m.code.code; variables = m.variables.items }

-- its code is that of a program, and the shapes and the index are those of the code
pub record IsMachine (m : Inside) : Type 0 where
  pub program : Program
  pub stands : Stands (code_nodes m.moves.world) m.code program
  pub laid_out : IsLaidOut m.code
