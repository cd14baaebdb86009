use Rattle.std.proofs.Common.{◌++◌, ◌∷◌, [], subst}
use Rattle.std.proofs.lemmas.Result.{on_ok_weaker}
use Rattle.beta_fragment.specs.declared.quoting.Task.{Task}
use Rattle.beta_fragment.specs.inside.Cells.{terms_of}
use Rattle.beta_fragment.specs.inside.Quoting.{IsQuoting, set_for}
use Rattle.beta_fragment.proofs.QuoteWork.{done-smaller}
use Rattle.beta_fragment.proofs.quoting.step.Goals as goal

pub returns-in-Visit-clause-steps : goal.returns-in-Visit-clause-steps
returns-in-Visit-clause-steps c = on_ok_weaker c.visit.result
    (λ w g u same q. w g u same (subst (λ (k : Task). IsQuoting (set_for g (terms_of c.args.cells.now) c.args.depth c.args.put) u c.args.heap.now (c.args.work.now.items ++ k ∷ []) c.args.done.now.items) c.in-Visit.is q)) c.visit.ensures.steps

pub returns-in-Lam-clause-smaller : goal.returns-in-Lam-clause-smaller
returns-in-Lam-clause-smaller c = on_ok_weaker c.finish_lam.result (λ w. done-smaller (terms_of c.args.cells.now) c.args.work.now.items c.args.task) c.finish_lam.ensures.steps

pub returns-in-App-clause-smaller : goal.returns-in-App-clause-smaller
returns-in-App-clause-smaller c = on_ok_weaker c.finish_app.result (λ w. done-smaller (terms_of c.args.cells.now) c.args.work.now.items c.args.task) c.finish_app.ensures.steps
