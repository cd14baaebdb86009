use Rattle.std.proofs.Common.{◌≡◌, drop}
use Rattle.clause_key.specs.Keys as spec
use Rattle.clause_key.proofs.call.first_input.Given as goal

abbrev pub invariant-loop-i : goal.invariant-loop-i
invariant-loop-i l = spec.first_input (drop l.i l.inputs) (drop l.i l.args) ≡ spec.first_input l.inputs l.args
