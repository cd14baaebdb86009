use Rattle.std.proofs.Common.{[]}
use Rattle.level_terms.proofs.GrowthLemmas.{grows-refl}
use Rattle.ref_terms.specs.unification.Shape.{Abstraction}
use Rattle.pattern_unify.specs.inside.Sides.{shape_at}
use Rattle.pattern_unify.specs.inside.Turns.{rule_at}
use Rattle.pattern_unify.proofs.TurnLemmas.{seen-each, abstraction-opens}
use Rattle.pattern_unify.proofs.turning.after_abstraction.Goals as goal

pub returns-in-Redex-clause-grows : goal.returns-in-Redex-clause-grows
returns-in-Redex-clause-grows c = grows-refl c.args.heap.now []

pub returns-in_default : goal.returns-in_default
returns-in_default c = record {
  turn = seen-each c.args.heap.now c.opened.new.heap (λ n bs. rule_at n c.args.heap.now c.args.e c.args.work.now.items Abstraction (shape_at c.args.heap.now c.args.right.now) bs) (λ n bs. rule_at n c.args.heap.now c.args.e c.args.work.now.items Abstraction Abstraction bs)
      c.opened.new.work.items c.opened.result (λ n bs. abstraction-opens c.args.heap.now n c.args.e c.args.work.now.items c.args.right.now bs c.in_default.not-Redex) c.opened.ensures.turn;
  grows = c.opened.ensures.grows;
}
