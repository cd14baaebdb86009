use Rattle.std.proofs.Common.{◌≡◌, ◌≤◌, length}
use Rattle.suspend.specs.Store.{oldest}
use Rattle.suspend.proofs.ledger.Ledger.undo.Given as goal

abbrev pub invariant-loop-self : goal.invariant-loop-self
invariant-loop-self g l = (l.events ≤ length l.self) × (oldest l.events l.self ≡ oldest l.events l.fn.self)

abbrev pub decreases-loop-self : goal.decreases-loop-self
decreases-loop-self g l = length l.self
