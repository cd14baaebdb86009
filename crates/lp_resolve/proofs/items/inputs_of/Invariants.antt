use Rattle.std.proofs.Common.{◌≡◌, map, take}
use Rattle.lp_resolve.proofs.items.inputs_of.Given as goal

abbrev pub invariant-loop-arg : goal.invariant-loop-arg
invariant-loop-arg l = l.inputs ≡ map (λ a. a.input) (take l.arg-index l.args)
