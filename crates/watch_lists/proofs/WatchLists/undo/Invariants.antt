use Rattle.std.proofs.Common.{◌≡◌, ◌≤◌, ◌-◌, length}
use Rattle.watch_lists.specs.Rows.{oldest}
use Rattle.watch_lists.proofs.WatchLists.undo.Given as goal

abbrev pub invariant-loop-m : goal.invariant-loop-m
invariant-loop-m l = (l.m.changes ≤ length l.self) × (oldest l.m.changes l.self ≡ oldest l.m.changes l.initial.self)

abbrev pub decreases-loop-m : goal.decreases-loop-m
decreases-loop-m l = length l.self - l.m.changes
