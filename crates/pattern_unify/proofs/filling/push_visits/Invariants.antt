use Rattle.std.proofs.Common.{◌≡◌, ◌≤◌, ◌++◌, length, reverse, drop}
use Rattle.pattern_unify.specs.inside.Filling.{visits}
use Rattle.pattern_unify.proofs.filling.push_visits.Given as goal

abbrev pub invariant-loop-i : goal.invariant-loop-i
invariant-loop-i l = record {
  within : l.i ≤ length l.nodes;
  pushed : l.work.items ≡ l.fn.work.items ++ reverse (drop l.i (visits l.nodes));
}

abbrev pub decreases-loop-i : goal.decreases-loop-i
decreases-loop-i l = l.i
