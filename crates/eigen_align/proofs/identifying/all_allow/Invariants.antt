use Rattle.std.proofs.Common.{◌≡◌, drop}
use Rattle.eigen_align.specs.inside.Identified.{all_allowed}
use Rattle.eigen_align.proofs.identifying.all_allow.Given as goal

abbrev pub invariant-loop-i : goal.invariant-loop-i
invariant-loop-i l = all_allowed l.own l.joint 0 l.names ≡ all_allowed l.own l.joint l.i (drop l.i l.names)
