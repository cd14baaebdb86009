use Rattle.std.proofs.Common.{length}
use Rattle.search_moves.proofs.WakeMoves.{IsPuttingBack}
use Rattle.search_moves.proofs.machine.Machine.put_before.Given as goal

-- the last goals are there
abbrev pub invariant-loop-goal : goal.invariant-loop-goal
invariant-loop-goal l = IsPuttingBack l.fn.self l.fn.goals.items l.self l.left.items

abbrev pub decreases-loop-goal : goal.decreases-loop-goal
decreases-loop-goal l = length l.left.items
