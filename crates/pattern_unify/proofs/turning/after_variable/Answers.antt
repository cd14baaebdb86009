use Rattle.std.proofs.Common.{ap}
use Rattle.level_terms.proofs.GrowthLemmas.{grows-refl}
use Rattle.ref_terms.specs.unification.Shape.{Abstraction, Flex}
use Rattle.beta_fragment.specs.HeadForm.{all_read}
use Rattle.pattern_unify.specs.declared.side.Side.{Side}
use Rattle.pattern_unify.specs.inside.Sides.{shape_at}
use Rattle.pattern_unify.specs.inside.Turns.{rule_at}
use Rattle.pattern_unify.proofs.KeptLemmas.{frozen-grown}
use Rattle.pattern_unify.proofs.TurnLemmas.{seen-at}
use Rattle.pattern_unify.proofs.turning.after_variable.Goals as goal

pub returns-in-Redex-clause-grows : goal.returns-in-Redex-clause-grows
returns-in-Redex-clause-grows c = grows-refl c.args.heap.now c.args.trail.now.entries

pub returns-in-Abstraction-clause-frozen : goal.returns-in-Abstraction-clause-frozen
returns-in-Abstraction-clause-frozen c = frozen-grown c.args.heap.now c.opened.new.heap c.args.mark.index c.opened.ensures.grows

pub returns-in-Abstraction-clause-turn : goal.returns-in-Abstraction-clause-turn
returns-in-Abstraction-clause-turn c =
    let flex = Flex c.args.v.index (all_read c.args.heap.now c.args.xs.now) in
    seen-at c.args.heap.now c.opened.new.heap c.args.mark.index (λ bs. rule_at c.args.mark.index c.args.heap.now c.args.e c.args.work.now.items flex (shape_at c.args.heap.now c.args.right.now) bs) (λ n bs. rule_at n c.args.heap.now c.args.e c.args.work.now.items Abstraction Abstraction bs)
    c.opened.new.work.items c.opened.result (λ bs. ap (λ (s : Side). rule_at c.args.mark.index c.args.heap.now c.args.e c.args.work.now.items flex (shape_at c.args.heap.now s) bs) c.in-Abstraction.is) c.opened.ensures.turn
