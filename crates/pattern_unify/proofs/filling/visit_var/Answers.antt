use Rattle.std.proofs.Common.{◌++◌, ◌∷◌, [], List, sym, subst}
use Rattle.pattern_unify.specs.inside.Filling.{Steps}
use Rattle.pattern_unify.specs.declared.filling.Task.{Task}
use Rattle.pattern_unify.specs.declared.filling.Task.TheVariants.{Visit}
use Rattle.pattern_unify.proofs.FillingWork.{steps-value}
use Rattle.pattern_unify.proofs.filling.visit_var.Goals as goal

pub returns-in_ok-push-in-Some-clause-steps : goal.returns-in_ok-push-in-Some-clause-steps
returns-in_ok-push-in-Some-clause-steps c =
    subst (λ (ws : List Task). Steps (record { heap = c.args.heap.now; work = c.args.work.now.items ++ Visit c.args.node ∷ []; done = c.args.done.now.items }) (record { heap = c.args.heap.now; work = ws; done = c.args.done.now.items }))
    (sym c.in_ok-push-in-Some.ensures.items)
    (steps-value c.args.heap.now c.args.work.now.items c.args.done.now.items c.args.node c.in-Some.value c.args.v c.requires.here (sym c.in-Some.ensures.value))
