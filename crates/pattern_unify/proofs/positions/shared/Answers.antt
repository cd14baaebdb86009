use Rattle.std.proofs.Common.{◌≡◌, ◌∙◌, sym, map, get_or, arith}
use Rattle.std.specs.List.{list_any}
use Rattle.std.proofs.lemmas.Grind.{common_steps}
use Rattle.ref_terms.specs.unification.Pattern.{of_name, same_name}
use Rattle.pattern_unify.proofs.PositionLemmas.{shared-below, among-names}
use Rattle.pattern_unify.proofs.positions.shared.Goals as goal

pub loop-i-preserved : goal.loop-i-preserved
loop-i-preserved c =
    let there : list_any (same_name (of_name (get_or c.args.xs.now c.loop-i.i 0))) (map of_name c.args.ys.now) ≡ c.contains.result = among-names (get_or c.args.xs.now c.loop-i.i 0) c.args.ys.now ∙ sym c.contains.ensures.value in
    grind (arith, common_steps)

pub returns-clause-below : goal.returns-clause-below
returns-clause-below c = shared-below c.loop-i.kept.items c.args.xs.now c.args.ys.now (grind (arith, common_steps))
