use Rattle.std.proofs.Common.{◌≡◌}
use Rattle.ref_terms.specs.unification.Closing.{names_below}
use Rattle.eigen_align.proofs.joint.own_map.Given as goal

abbrev pub invariant-loop-i : goal.invariant-loop-i
invariant-loop-i l = l.names ≡ names_below l.i
