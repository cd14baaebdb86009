use Rattle.std.proofs.Common.{◌≡◌, slice_index, arith}
use Rattle.eigen_align.proofs.JointLemmas.{by-place}
use Rattle.eigen_align.proofs.AlignedLemmas.{own-names, other-name}
use Rattle.eigen_align.proofs.lifting.are_own.Goals as goal

pub loop-i-preserved : goal.loop-i-preserved
loop-i-preserved c = by-place (λ k. slice_index c.args.map.now k ≡ k) c.loop-i.i c.loop-i.invariant c.if-not-own.false

pub returns-then-not-own : goal.returns-then-not-own
returns-then-not-own c = λ e. other-name c.args.map.now c.loop-i.i c.loop-i-test.true c.if-not-own.true e

pub returns : goal.returns
returns c = own-names c.args.map.now c.loop-i.i (omega arith) c.loop-i.invariant
