use Rattle.std.proofs.Common.{◌≡◌, ◌≤◌, ◌++◌, length, reverse, map, drop}
use Rattle.pattern_unify.specs.inside.Searching.{subterm}
use Rattle.pattern_unify.proofs.offence.push_subterms.Given as goal

abbrev pub invariant-loop-i : goal.invariant-loop-i
invariant-loop-i l = record {
  within : l.i ≤ length l.nodes;
  pushed : l.work.items ≡ l.fn.work.items ++ reverse (drop l.i (map (subterm l.depth l.loose) l.nodes));
}

abbrev pub decreases-loop-i : goal.decreases-loop-i
decreases-loop-i l = l.i
