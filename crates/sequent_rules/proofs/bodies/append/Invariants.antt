use Rattle.std.proofs.Common.{◌≡◌, ◌++◌}
use Rattle.sequent_rules.proofs.bodies.append.Given as goal

abbrev pub invariant-loop-hyp : goal.invariant-loop-hyp
invariant-loop-hyp l = l.all ≡ l.initial.all ++ l.yielded
