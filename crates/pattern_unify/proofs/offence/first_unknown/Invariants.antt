use Rattle.std.proofs.Common.{◌≡◌, ◌≤◌, ◌-◌, length, drop}
use Rattle.pattern_unify.specs.inside.Searching.{unknown_from}
use Rattle.pattern_unify.proofs.offence.first_unknown.Given as goal

abbrev pub invariant-loop-i : goal.invariant-loop-i
invariant-loop-i l = record {
  within : l.i ≤ length l.spine;
  found : unknown_from l.ns l.base 0 l.spine ≡ unknown_from l.ns l.base l.i (drop l.i l.spine);
}

abbrev pub decreases-loop-i : goal.decreases-loop-i
decreases-loop-i l = length l.spine - l.i
