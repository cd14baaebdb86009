use Rattle.std.proofs.Common.{map, take, All}
use Rattle.type_terms.specs.Demands.{Meets}
use Rattle.type_check.specs.Typings.{IsPairTyped}
use Rattle.type_check.proofs.rules.demand_pairs.Given as goal

abbrev pub invariant-loop-pair : goal.invariant-loop-pair
invariant-loop-pair l = Meets l.fn.graph l.graph (λ v. All (IsPairTyped (map v l.scope.variables.now)) (take l.pair-index l.pairs))
