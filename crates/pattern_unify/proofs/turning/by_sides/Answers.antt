use Rattle.std.proofs.Common.{ap}
use Rattle.level_terms.proofs.GrowthLemmas.{grows-refl}
use Rattle.ref_terms.specs.unification.Shape.{Abstraction}
use Rattle.pattern_unify.specs.declared.side.Side.{Side}
use Rattle.pattern_unify.specs.inside.Sides.{shape_at}
use Rattle.pattern_unify.specs.inside.Turns.{rule_at}
use Rattle.pattern_unify.proofs.KeptLemmas.{frozen-grown}
use Rattle.pattern_unify.proofs.TurnLemmas.{seen-at}
use Rattle.pattern_unify.proofs.turning.by_sides.Goals as goal

pub returns-in-Redex-clause-grows : goal.returns-in-Redex-clause-grows
returns-in-Redex-clause-grows c = grows-refl c.args.heap.now c.args.trail.now.entries

pub returns-in-Abstraction-clause-frozen : goal.returns-in-Abstraction-clause-frozen
returns-in-Abstraction-clause-frozen c = frozen-grown c.args.heap.now c.after_abstraction.new.heap c.args.mark.index c.after_abstraction.ensures.grows

pub returns-in-Abstraction-clause-turn : goal.returns-in-Abstraction-clause-turn
returns-in-Abstraction-clause-turn c =
    seen-at c.args.heap.now c.after_abstraction.new.heap c.args.mark.index (λ bs. rule_at c.args.mark.index c.args.heap.now c.args.e c.args.work.now.items (shape_at c.args.heap.now c.args.left.now) (shape_at c.args.heap.now c.args.right.now) bs) (λ n bs. rule_at n c.args.heap.now c.args.e c.args.work.now.items Abstraction (shape_at c.args.heap.now c.args.right.now) bs)
    c.after_abstraction.new.work.items c.after_abstraction.result (λ bs. ap (λ (s : Side). rule_at c.args.mark.index c.args.heap.now c.args.e c.args.work.now.items (shape_at c.args.heap.now s) (shape_at c.args.heap.now c.args.right.now) bs) c.in-Abstraction.is) c.after_abstraction.ensures.turn
