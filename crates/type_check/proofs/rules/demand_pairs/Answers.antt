use Rattle.std.proofs.Common.{map, get_or, true, subst, arith}
use Rattle.std.proofs.lemmas.List.{get_or_default}
use Rattle.lp_resolve.specs.declared.program.PairTree.{PairTree}
use Rattle.type_terms.specs.Demands.{Demands}
use Rattle.type_terms.proofs.CallerLemmas.{known-depends}
use Rattle.type_check.specs.Typings.{IsPairTyped}
use Rattle.type_check.proofs.Loops.{none-demanded, next-demanded, all-demanded, all-refused}
use Rattle.type_check.proofs.rules.demand_pairs.Goals as goal

pub returns-then-not-branch : goal.returns-then-not-branch
returns-then-not-branch c =
    let s = c.args.scope.now in
    let i = c.loop-pair.pair-index in
    let none : PairTree = record { left = 0; right = 0 } in
    let x = get_or c.args.pairs.now i none in
    let is = get_or_default c.args.pairs.now i none x c.loop-pair-test.true in
    let g = c.loop-pair.graph in
    let g' = c.demand_pair.new.graph in
    all-refused c.args.graph.now g g' (λ x v. IsPairTyped (map v s.variables.now) x) c.args.pairs.now i x c.loop-pair-test.true is
    (known-depends c.args.graph.now s (λ cs xs. IsPairTyped xs x) c.requires) c.loop-pair.invariant
    (subst (Demands g g' (λ v. IsPairTyped (map v s.variables.now) x)) c.if-not-branch.true c.in_ok-demand_pair.ensures)

pub loop-pair-preserved : goal.loop-pair-preserved
loop-pair-preserved c =
    let s = c.args.scope.now in
    let i = c.loop-pair.pair-index in
    let none : PairTree = record { left = 0; right = 0 } in
    let x = get_or c.args.pairs.now i none in
    let is = get_or_default c.args.pairs.now i none x c.loop-pair-test.true in
    let g = c.loop-pair.graph in
    let g' = c.demand_pair.new.graph in
    next-demanded c.args.graph.now g g' (λ x v. IsPairTyped (map v s.variables.now) x) c.args.pairs.now i x true c.loop-pair-test.true is
    (known-depends c.args.graph.now s (λ cs xs. IsPairTyped xs x) c.requires) c.loop-pair.invariant
    (subst (Demands g g' (λ v. IsPairTyped (map v s.variables.now) x)) c.if-not-branch.false c.in_ok-demand_pair.ensures)

pub loop-pair-init : goal.loop-pair-init
loop-pair-init c =
    let s = c.args.scope.now in
    none-demanded c.args.graph.now (λ x v. IsPairTyped (map v s.variables.now) x) c.args.pairs.now

pub returns : goal.returns
returns c =
    let s = c.args.scope.now in
    all-demanded c.args.graph.now c.loop-pair.graph (λ x v. IsPairTyped (map v s.variables.now) x) c.args.pairs.now c.loop-pair.pair-index (omega (arith, c.loop-pair-test.false)) c.loop-pair.invariant
