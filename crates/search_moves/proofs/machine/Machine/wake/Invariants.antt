use Rattle.std.proofs.Common.{length}
use Rattle.search_moves.specs.Machine.{branch_of}
use Rattle.search_moves.specs.Waking.{up_in}
use Rattle.search_moves.proofs.WakeMoves.{IsCollecting}
use Rattle.search_moves.proofs.machine.Machine.wake.Given as goal

-- the first awake constraints have left the store
abbrev pub invariant-loop-goals : goal.invariant-loop-goals
invariant-loop-goals l = IsCollecting l.barrier l.fn.self l.self l.goals.items

abbrev pub decreases-loop-goals : goal.decreases-loop-goals
decreases-loop-goals l = length (up_in (branch_of l.self))
