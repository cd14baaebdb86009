-- What contracts see of a machine, and the state of the reference that it stands for.
use Rattle.std.specs.Prelude.{◌≡◌, List}
use Rattle.ref_terms.specs.search.Program.{Program}
use Rattle.ref_terms.specs.search.Branch.{Branch}
use Rattle.ref_terms.specs.search.State as state
use Rattle.ref_terms.specs.search.State.{State, Move}
use Rattle.lp_resolve.specs.declared.query.QueryVar.{QueryVar}
use Rattle.search_moves.specs.declared.machine.Event.{Event}
use Rattle.search_moves.specs.declared.machine.Phase.TheVariants.{Starved}
use Rattle.search_moves.specs.World.{code_nodes}
use Rattle.search_moves.specs.Machine as moves
use Rattle.clause_compile.specs.declared.code.Code.{Code}
use Rattle.goal_run.specs.inside.Code.{IsCodeFor}

-- the search, the program's code, and the query's variables
pub record Machine : Type 0 where
  pub moves : moves.Machine
  pub code : Code
  pub variables : List QueryVar

-- the machine's program is this one
abbrev pub Runs : Machine → Program → Type 0
Runs m p = IsCodeFor (code_nodes m.moves.world) m.code p

-- the present branch: that of the answer, where the last event was one
abbrev pub branch_of : Machine → Branch
branch_of m = moves.branch_of m.moves

-- the state of the search for a program
abbrev pub state_of : Program → Machine → State
state_of p m = moves.state_of p m.moves

-- the event of the reference
abbrev pub event_of : Machine → Event → state.Event
event_of m e = moves.event_of m.moves e

-- the machine has made this move, with this event
abbrev pub HasMoved : Program → Move → Event → Machine → Type 0
HasMoved p move e m = moves.HasMoved p move e m.moves

-- memory was wanting at a move
abbrev pub IsStarved : Machine → Type 0
IsStarved m = m.moves.phase ≡ Starved
