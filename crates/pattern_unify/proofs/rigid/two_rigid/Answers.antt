use Rattle.std.proofs.Common.{sym, ◌∙◌}
use Rattle.pattern_unify.specs.inside.Sides.{head_at}
use Rattle.pattern_unify.proofs.ArgumentTurns.{arguments-turn}
use Rattle.pattern_unify.proofs.rigid.two_rigid.Goals as goal

pub returns : goal.returns
returns c = record {
  turn = arguments-turn c.args.heap.now (head_at c.args.h) (head_at c.args.k) c.args.e c.args.xs.now c.args.ys.now c.args.work.now.items c.push_arguments.new.work.items
      (sym c.is_same_head.ensures ∙ c.if-not-is_same_head.false) c.if-xs-ys.false c.in_ok-push_arguments.ensures c.requires.valid c.requires.left c.requires.right;
}
