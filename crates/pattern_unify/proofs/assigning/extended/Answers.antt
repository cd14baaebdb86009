use Rattle.std.proofs.Common.{◌+◌, [], arith, refl, ◌∙◌}
use Rattle.level_terms.proofs.GrowthLemmas.{grows-refl, grows-trans}
use Rattle.pattern_unify.proofs.ClosedNodes.{alike-same, alike-then, alike-applied}
use Rattle.pattern_unify.proofs.assigning.extended.Goals as goal

pub loop-level-init : goal.loop-level-init
loop-level-init c = record {
  alike = alike-same c.args.heap.now c.args.body.index c.args.from c.requires.valid;
  high = c.requires.high;
  variables = refl;
  grows = grows-refl c.args.heap.now [];
}

pub returns-in_err-node-clause-grows : goal.returns-in_err-node-clause-grows
returns-in_err-node-clause-grows c = grows-trans c.args.heap.now c.loop-level.heap c.applied.new.heap [] [] [] c.loop-level.invariant.grows c.applied.ensures.grows

pub loop-level-preserved : goal.loop-level-preserved
loop-level-preserved c =
    let before = c.loop-level.invariant in
    let less = c.loop-level-test.true in
    record {
      alike = alike-then c.args.heap.now c.loop-level.heap c.applied.new.heap c.args.body.index c.args.from c.loop-level.node.index c.loop-level.level c.in_ok-node.node.index (c.loop-level.level + 1) before.alike
          (alike-applied c.loop-level.heap c.applied.new.heap c.loop-level.node.index c.in_ok-node.node.index c.loop-level.level (c.loop-level.level + 1) refl before.alike.valid c.in_ok-node.ensures.reads c.in_ok-node.ensures.valid c.in_ok-node.ensures.unreached);
      high = omega (arith, less);
      variables = c.applied.ensures.variables ∙ before.variables;
      grows = grows-trans c.args.heap.now c.loop-level.heap c.applied.new.heap [] [] [] before.grows c.applied.ensures.grows;
    }
