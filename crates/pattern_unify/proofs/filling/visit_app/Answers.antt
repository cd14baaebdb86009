use Rattle.std.proofs.Common.{◌≡◌, ◌++◌, ◌∷◌, [], List, length, reverse, ap, ◌∙◌, append_assoc}
use Rattle.std.proofs.lemmas.Result.{on_ok_weaker}
use Rattle.pattern_unify.specs.inside.Filling.{visits}
use Rattle.pattern_unify.specs.declared.filling.Task.{Task}
use Rattle.pattern_unify.specs.declared.filling.Task.TheVariants.{App}
use Rattle.pattern_unify.proofs.FillingWork.{steps-visits, args-some}
use Rattle.pattern_unify.proofs.filling.visit_app.Goals as goal

pub returns : goal.returns
returns c = record {
  steps =
      on_ok_weaker c.push_visits.result
      (λ put done.
      steps-visits c.args.heap.now c.args.work.now.items c.push_visits.new.work.items done c.args.node c.args.head c.args.args.now c.requires.here (args-some c.args.heap.now c.args.node.index c.args.head c.args.args.now c.is_sound.ensures c.requires.here)
      (put
      ∙ ap (λ (ws : List Task). ws ++ reverse (visits c.args.args.now)) c.in_ok-push.ensures.items
      ∙ append_assoc c.args.work.now.items (App c.args.head (length c.args.args.now) ∷ []) (reverse (visits c.args.args.now))))
      c.push_visits.ensures;
}
