use Rattle.std.proofs.Common.{map, take, All}
use Rattle.type_terms.specs.Read.{declared_of}
use Rattle.type_terms.specs.Demands.{Meets}
use Rattle.type_check.specs.Typings.{IsHeadTyped}
use Rattle.type_check.proofs.rules.demand_heads.Given as goal

abbrev pub invariant-loop-head : goal.invariant-loop-head
invariant-loop-head l = Meets l.fn.graph l.graph (λ v. All (IsHeadTyped (declared_of l.scope.declared.now) (map v l.scope.constants.now) (map v l.scope.variables.now)) (take l.head-index l.heads))
