use Rattle.std.proofs.Common.{length, reverse}
use Rattle.builtins.specs.inside.Pending.{IsHanding}
use Rattle.builtins.proofs.evaluating.finish.Given as goal

abbrev pub invariant-loop-frame : goal.invariant-loop-frame
invariant-loop-frame l = IsHanding (reverse l.fn.work.items) (reverse l.work.items) l.fn.z l.value

abbrev pub decreases-loop-frame : goal.decreases-loop-frame
decreases-loop-frame l = length l.work.items
