use Rattle.std.proofs.Common.{◌+◌, ◌++◌, ◌∷◌, [], List, take, get_or, refl, sym, ◌∙◌, subst}
use Rattle.std.proofs.lemmas.List.{take_more}
use Rattle.level_terms.specs.declared.node.Node.TheVariants.{Level}
use Rattle.level_terms.specs.declared.node.TermId.{TermId}
use Rattle.level_terms.proofs.GrowthLemmas.{grows-refl, grows-trans}
use Rattle.pattern_unify.specs.inside.Keeping.{AreLevels}
use Rattle.pattern_unify.proofs.KeepNodes.{levels-kept, levels-last, node-made, depths-made}
use Rattle.pattern_unify.proofs.keeping.level_nodes.Goals as goal

pub loop-level-init : goal.loop-level-init
loop-level-init c = record {
  levels = subst (λ (ts : List TermId). AreLevels c.args.heap.now ts []) (sym c.new-nodes.ensures.items) tt;
  variables = refl;
  grows = grows-refl c.args.heap.now [];
}

pub returns-in_err-push-clause-grows : goal.returns-in_err-push-clause-grows
returns-in_err-push-clause-grows c = grows-trans c.args.heap.now c.loop-level.heap c.level.new.self [] [] [] c.loop-level.invariant.grows c.level.ensures.grows

pub loop-level-preserved : goal.loop-level-preserved
loop-level-preserved c =
    let k = get_or c.args.levels.now c.loop-level.level-index 0 in
    let made = c.in_ok-node.ensures.ok.1 in
    record {
      levels =
          subst (λ (ts : List TermId). AreLevels c.level.new.self ts (take (c.loop-level.level-index + 1) c.args.levels.now)) (sym c.in_ok-push.ensures.items)
          (subst (AreLevels c.level.new.self (c.loop-level.nodes.items ++ c.in_ok-node.node ∷ [])) (sym (take_more c.args.levels.now c.loop-level.level-index 0 c.loop-level-test.true))
          (levels-last c.level.new.self c.loop-level.nodes.items (take c.loop-level.level-index c.args.levels.now) c.in_ok-node.node k
          (levels-kept c.loop-level.heap c.level.new.self c.level.ensures.grows c.loop-level.nodes.items (take c.loop-level.level-index c.args.levels.now) c.loop-level.invariant.levels)
          (node-made c.loop-level.heap c.level.new.self (Level k) c.in_ok-node.node.index c.in_ok-node.ensures.ok.0 made)));
      variables = depths-made c.loop-level.heap c.level.new.self (Level k) made ∙ c.loop-level.invariant.variables;
      grows = grows-trans c.args.heap.now c.loop-level.heap c.level.new.self [] [] [] c.loop-level.invariant.grows c.level.ensures.grows;
    }
