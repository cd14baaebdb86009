use Rattle.std.proofs.Common.{◌≡◌, ◌≤◌, ◌++◌, length, reverse, drop}
use Rattle.pattern_unify.specs.inside.Equations.{arguments_of}
use Rattle.pattern_unify.proofs.rigid.push_arguments.Given as goal

abbrev pub invariant-loop-i : goal.invariant-loop-i
invariant-loop-i l = record {
  within : l.i ≤ length l.xs;
  pushed : l.work.items ≡ l.fn.work.items ++ reverse (drop l.i (arguments_of l.depth l.xs l.ys));
}

abbrev pub decreases-loop-i : goal.decreases-loop-i
decreases-loop-i l = l.i
