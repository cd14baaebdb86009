use Rattle.std.proofs.Common.{◌≡◌, ◌++◌, ◌∷◌, [], List, reverse, sym, ap, ◌∙◌, subst}
use Rattle.std.proofs.lemmas.List.{reverse-append, reverse-reverse}
use Rattle.beta_fragment.specs.declared.evaluating.Task.{Task}
use Rattle.beta_fragment.specs.declared.evaluating.Task.TheVariants.{Visit}
use Rattle.beta_fragment.specs.inside.Evaluation.{Steps, arg_tasks}
use Rattle.beta_fragment.proofs.EvaluationLemmas.{steps-more, app-comes, app-falls}
use Rattle.beta_fragment.proofs.ArgumentLemmas.{pushed-app}
use Rattle.beta_fragment.proofs.evaluating.visit_app.Goals as goal

pub returns : goal.returns
returns c = λ terms.
    let pushed = pushed-app c.args.work.now.items c.push_args.new.work.items c.push.new.self.items c.args.head c.args.args.now c.in_ok-push_args.ensures c.in_ok-push.ensures.items in
    let order : reverse (reverse (arg_tasks c.args.args.now) ++ Visit c.args.head ∷ []) ≡ Visit c.args.head ∷ arg_tasks c.args.args.now =
    reverse-append (reverse (arg_tasks c.args.args.now)) (Visit c.args.head ∷ []) ∙ ap (λ (ws : List Task). Visit c.args.head ∷ ws) (reverse-reverse (arg_tasks c.args.args.now)) in
    subst (λ (ws : List Task). Steps c.args.heap.now (record { work = c.args.work.now.items ++ Visit c.args.node ∷ []; entries = c.args.entries.now; under = c.args.under; terms = terms }) (record { work = ws; entries = c.args.entries.now; under = c.args.under; terms = terms })) (sym pushed)
    (steps-more c.args.heap.now c.args.work.now.items (reverse (arg_tasks c.args.args.now) ++ Visit c.args.head ∷ []) (Visit c.args.head ∷ arg_tasks c.args.args.now) c.args.node c.args.entries.now c.args.entries.now c.args.under c.args.under terms order
    (app-falls c.args.heap.now c.is_sound.ensures c.args.node c.args.head c.args.args.now c.requires.here)
    (λ k t h. app-comes c.args.heap.now c.is_sound.ensures c.args.node c.args.head c.args.args.now c.args.entries.now c.args.under k terms t c.requires.here h))
