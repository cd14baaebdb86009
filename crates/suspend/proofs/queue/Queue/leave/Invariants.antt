use Rattle.std.proofs.Common.{length}
use Rattle.suspend.specs.inside.Queue.{Leaves}
use Rattle.suspend.proofs.queue.Queue.leave.Given as goal

abbrev pub invariant-loop-least : goal.invariant-loop-least
invariant-loop-least l = Leaves l.fn.self l.number l.self

abbrev pub decreases-loop-least : goal.decreases-loop-least
decreases-loop-least l = length l.self
