use Rattle.std.proofs.Common.{map, take, All}
use Rattle.type_terms.specs.Read.{declared_of}
use Rattle.type_terms.specs.Demands.{Meets}
use Rattle.type_check.specs.Typings.{IsTestTyped}
use Rattle.type_check.proofs.tests.demand_tests.Given as goal

abbrev pub invariant-loop-test : goal.invariant-loop-test
invariant-loop-test l = Meets l.fn.graph l.graph (λ v. All (IsTestTyped (declared_of l.scope.declared.now) (map v l.scope.constants.now) (map v l.scope.variables.now)) (take l.test-index l.tests))
