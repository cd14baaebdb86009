use Rattle.std.proofs.Common.{◌≡◌, ◌+◌, ◌++◌, drop}
use Rattle.ref_terms.specs.search.Joint.{completed, missing}
use Rattle.eigen_align.proofs.joint.complete.Given as goal

abbrev pub invariant-loop-i : goal.invariant-loop-i
invariant-loop-i l = record {
  names : completed l.fn.next l.names ≡ l.map ++ completed l.next (drop l.i l.names);
  next : l.fn.next + missing l.names ≡ l.next + missing (drop l.i l.names);
}
