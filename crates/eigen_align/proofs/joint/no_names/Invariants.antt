use Rattle.std.proofs.Common.{◌≡◌, replicate, None}
use Rattle.eigen_align.proofs.joint.no_names.Given as goal

abbrev pub invariant-loop-i : goal.invariant-loop-i
invariant-loop-i l = l.names.items ≡ replicate l.i None
