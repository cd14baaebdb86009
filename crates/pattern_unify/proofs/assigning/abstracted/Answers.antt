use Rattle.std.proofs.Common.{◌-◌, [], arith, refl, ◌∙◌}
use Rattle.level_terms.specs.declared.node.Node.TheVariants.{Lam}
use Rattle.level_terms.proofs.GrowthLemmas.{grows-refl, grows-trans}
use Rattle.level_terms.proofs.ReadLemmas.{valid-below}
use Rattle.pattern_unify.proofs.ClosedNodes.{alike-same, alike-then, alike-lam}
use Rattle.pattern_unify.proofs.KeepNodes.{depths-made}
use Rattle.pattern_unify.proofs.assigning.abstracted.Goals as goal

pub loop-level-init : goal.loop-level-init
loop-level-init c = record {
  alike = alike-same c.args.heap.now c.args.body.index c.args.from c.requires.valid;
  low = c.requires.low;
  variables = refl;
  grows = grows-refl c.args.heap.now [];
}

pub lam-requires : goal.lam-requires
lam-requires c = valid-below c.loop-level.heap c.loop-level.node.index c.loop-level.level c.loop-level.invariant.alike.valid

pub loop-level-preserved : goal.loop-level-preserved
loop-level-preserved c =
    let before = c.loop-level.invariant in
    let some = c.loop-level-test.true in
    let made = c.in_ok-node.ensures.ok.1 in
    record {
      alike = alike-then c.args.heap.now c.loop-level.heap c.lam.new.self c.args.body.index c.args.from c.loop-level.node.index c.loop-level.level c.in_ok-node.node.index (c.loop-level.level - 1) before.alike
          (alike-lam c.loop-level.heap c.lam.new.self c.loop-level.node c.in_ok-node.node (c.loop-level.level - 1) c.loop-level.level c.is_sound.ensures c.is_sound-in-loop-level.ensures (omega (arith, some)) before.alike.valid c.in_ok-node.ensures.ok.0 made);
      low = omega (arith, some);
      variables = depths-made c.loop-level.heap c.lam.new.self (Lam (c.loop-level.level - 1) c.loop-level.node) made ∙ before.variables;
      grows = grows-trans c.args.heap.now c.loop-level.heap c.lam.new.self [] [] [] before.grows c.lam.ensures.grows;
    }
