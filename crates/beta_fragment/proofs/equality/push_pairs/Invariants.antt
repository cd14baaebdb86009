use Rattle.std.proofs.Common.{◌≡◌, ◌≤◌, ◌++◌, length, reverse, drop}
use Rattle.beta_fragment.specs.inside.Pairs.{pairs_of}
use Rattle.beta_fragment.proofs.equality.push_pairs.Given as goal

abbrev pub invariant-loop-i : goal.invariant-loop-i
invariant-loop-i l = record {
  within : l.i ≤ length l.left;
  pushed : l.work.items ≡ l.fn.work.items ++ reverse (drop l.i (pairs_of l.depth l.left l.right));
}

abbrev pub decreases-loop-i : goal.decreases-loop-i
decreases-loop-i l = l.i
