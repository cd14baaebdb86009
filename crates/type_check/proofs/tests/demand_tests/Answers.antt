use Rattle.std.proofs.Common.{map, true, subst, arith}
use Rattle.type_terms.specs.Read.{declared_of}
use Rattle.type_terms.specs.Demands.{Demands}
use Rattle.type_terms.proofs.CallerLemmas.{known-depends}
use Rattle.type_check.specs.Typings.{IsTestTyped}
use Rattle.type_check.proofs.Loops.{none-demanded, next-demanded, all-demanded, all-refused}
use Rattle.type_check.proofs.tests.demand_tests.Goals as goal

pub returns-then-not-branch : goal.returns-then-not-branch
returns-then-not-branch c =
    let s = c.args.scope.now in
    let g = c.loop-test.graph in
    let g' = c.demand_test.new.graph in
    all-refused c.args.graph.now g g' (λ x v. IsTestTyped (declared_of s.declared.now) (map v s.constants.now) (map v s.variables.now) x) c.args.tests.now c.loop-test.test-index c.test-item.result c.loop-test-test.true c.test-item.is
    (known-depends c.args.graph.now s (λ cs xs. IsTestTyped (declared_of s.declared.now) cs xs c.test-item.result) c.requires) c.loop-test.invariant
    (subst (Demands g g' (λ v. IsTestTyped (declared_of s.declared.now) (map v s.constants.now) (map v s.variables.now) c.test-item.result)) c.if-not-branch.true c.in_ok-demand_test.ensures)

pub loop-test-preserved : goal.loop-test-preserved
loop-test-preserved c =
    let s = c.args.scope.now in
    let g = c.loop-test.graph in
    let g' = c.demand_test.new.graph in
    next-demanded c.args.graph.now g g' (λ x v. IsTestTyped (declared_of s.declared.now) (map v s.constants.now) (map v s.variables.now) x) c.args.tests.now c.loop-test.test-index c.test-item.result true c.loop-test-test.true c.test-item.is
    (known-depends c.args.graph.now s (λ cs xs. IsTestTyped (declared_of s.declared.now) cs xs c.test-item.result) c.requires) c.loop-test.invariant
    (subst (Demands g g' (λ v. IsTestTyped (declared_of s.declared.now) (map v s.constants.now) (map v s.variables.now) c.test-item.result)) c.if-not-branch.false c.in_ok-demand_test.ensures)

pub loop-test-init : goal.loop-test-init
loop-test-init c =
    let s = c.args.scope.now in
    none-demanded c.args.graph.now (λ x v. IsTestTyped (declared_of s.declared.now) (map v s.constants.now) (map v s.variables.now) x) c.args.tests.now

pub returns : goal.returns
returns c =
    let s = c.args.scope.now in
    all-demanded c.args.graph.now c.loop-test.graph (λ x v. IsTestTyped (declared_of s.declared.now) (map v s.constants.now) (map v s.variables.now) x) c.args.tests.now c.loop-test.test-index (omega (arith, c.loop-test-test.false)) c.loop-test.invariant
