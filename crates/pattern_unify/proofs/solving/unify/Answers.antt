use Rattle.std.proofs.lemmas.Result.{IfOk-weaker}
use Rattle.pattern_unify.proofs.ProperReadings.{problem-general, problem-clash}
use Rattle.pattern_unify.proofs.solving.unify.Goals as goal

pub returns-clause-most_general : goal.returns-clause-most_general
returns-clause-most_general c =
    IfOk-weaker c.unify_from.result _ _
    (λ b answer solved. problem-general c.args.heap.now c.args.s.index c.args.t.index c.args.depth c.is_sound.ensures c.requires.left c.requires.right)
    c.unify_from.ensures.answer

pub returns-clause-no_unifier : goal.returns-clause-no_unifier
returns-clause-no_unifier c =
    IfOk-weaker c.unify_from.result _ _
    (λ b answer clashed. problem-clash c.args.heap.now c.args.s.index c.args.t.index c.args.depth c.is_sound.ensures c.requires.left c.requires.right)
    c.unify_from.ensures.answer
