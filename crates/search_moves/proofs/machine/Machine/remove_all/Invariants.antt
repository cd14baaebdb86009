use Rattle.std.proofs.Common.{length}
use Rattle.search_moves.proofs.FireMoves.{IsRemoving}
use Rattle.search_moves.proofs.machine.Machine.remove_all.Given as goal

-- the last ones are out
abbrev pub invariant-loop-id : goal.invariant-loop-id
invariant-loop-id l = IsRemoving l.fn.self l.fn.ids.items l.self l.left.items

abbrev pub decreases-loop-id : goal.decreases-loop-id
decreases-loop-id l = length l.left.items
