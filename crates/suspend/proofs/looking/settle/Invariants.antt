use Rattle.std.proofs.Common.{◌≡◌, ◌≤◌, ◌-◌, length, take}
use Rattle.suspend.specs.Store.{waiting}
use Rattle.suspend.specs.inside.Waking.{LooksOn, AllHead}
use Rattle.suspend.proofs.looking.settle.Given as goal

abbrev pub invariant-loop-i : goal.invariant-loop-i
invariant-loop-i g l = (l.i ≤ length l.variables) × LooksOn l.fn.ledger l.ledger × (waiting l.ledger ≡ waiting l.fn.ledger) × AllHead l.ledger l.number (take l.i l.variables)

abbrev pub decreases-loop-i : goal.decreases-loop-i
decreases-loop-i g l = length l.variables - l.i
