use Rattle.std.proofs.Common.{◌≤◌, ◌-◌, length}
use Rattle.suspend.specs.Store.{SameStore, IsLater}
use Rattle.suspend.specs.inside.Waking.{FollowsSome}
use Rattle.suspend.proofs.store.Store.follow.Given as goal

abbrev pub invariant-loop-i : goal.invariant-loop-i
invariant-loop-i g l = (l.i ≤ length l.entries) × FollowsSome l.fn.self l.self l.heap l.entries l.i × SameStore l.fn.self l.self × IsLater l.fn.self l.self

abbrev pub decreases-loop-i : goal.decreases-loop-i
decreases-loop-i g l = length l.entries - l.i
