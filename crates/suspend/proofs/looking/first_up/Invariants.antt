use Rattle.std.proofs.Common.{false, length}
use Rattle.level_terms.specs.Gains.{GainsNodes}
use Rattle.suspend.specs.Keyed.{Keyed}
use Rattle.suspend.specs.inside.Waking.{AreQueued, LooksOn}
use Rattle.suspend.proofs.looking.first_up.Given as goal

abbrev pub invariant-loop-number : goal.invariant-loop-number
invariant-loop-number g l = AreQueued l.ledger false l.queue × Keyed l.ledger l.heap × LooksOn l.fn.ledger l.ledger × GainsNodes l.fn.heap l.heap

abbrev pub decreases-loop-number : goal.decreases-loop-number
decreases-loop-number g l = length l.queue
