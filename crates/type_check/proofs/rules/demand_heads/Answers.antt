use Rattle.std.proofs.Common.{map, true, subst, arith}
use Rattle.type_terms.specs.Read.{declared_of}
use Rattle.type_terms.specs.Demands.{Demands}
use Rattle.type_terms.proofs.CallerLemmas.{known-depends}
use Rattle.type_check.specs.Typings.{IsHeadTyped}
use Rattle.type_check.proofs.Loops.{none-demanded, next-demanded, all-demanded, all-refused}
use Rattle.type_check.proofs.rules.demand_heads.Goals as goal

pub returns-then-not-branch : goal.returns-then-not-branch
returns-then-not-branch c =
    let s = c.args.scope.now in
    let g = c.loop-head.graph in
    let g' = c.demand_head.new.graph in
    all-refused c.args.graph.now g g' (λ x v. IsHeadTyped (declared_of s.declared.now) (map v s.constants.now) (map v s.variables.now) x) c.args.heads.now c.loop-head.head-index c.head-item.result c.loop-head-test.true c.head-item.is
    (known-depends c.args.graph.now s (λ cs xs. IsHeadTyped (declared_of s.declared.now) cs xs c.head-item.result) c.requires) c.loop-head.invariant
    (subst (Demands g g' (λ v. IsHeadTyped (declared_of s.declared.now) (map v s.constants.now) (map v s.variables.now) c.head-item.result)) c.if-not-branch.true c.in_ok-demand_head.ensures)

pub loop-head-preserved : goal.loop-head-preserved
loop-head-preserved c =
    let s = c.args.scope.now in
    let g = c.loop-head.graph in
    let g' = c.demand_head.new.graph in
    next-demanded c.args.graph.now g g' (λ x v. IsHeadTyped (declared_of s.declared.now) (map v s.constants.now) (map v s.variables.now) x) c.args.heads.now c.loop-head.head-index c.head-item.result true c.loop-head-test.true c.head-item.is
    (known-depends c.args.graph.now s (λ cs xs. IsHeadTyped (declared_of s.declared.now) cs xs c.head-item.result) c.requires) c.loop-head.invariant
    (subst (Demands g g' (λ v. IsHeadTyped (declared_of s.declared.now) (map v s.constants.now) (map v s.variables.now) c.head-item.result)) c.if-not-branch.false c.in_ok-demand_head.ensures)

pub loop-head-init : goal.loop-head-init
loop-head-init c =
    let s = c.args.scope.now in
    none-demanded c.args.graph.now (λ x v. IsHeadTyped (declared_of s.declared.now) (map v s.constants.now) (map v s.variables.now) x) c.args.heads.now

pub returns : goal.returns
returns c =
    let s = c.args.scope.now in
    all-demanded c.args.graph.now c.loop-head.graph (λ x v. IsHeadTyped (declared_of s.declared.now) (map v s.constants.now) (map v s.variables.now) x) c.args.heads.now c.loop-head.head-index (omega (arith, c.loop-head-test.false)) c.loop-head.invariant
