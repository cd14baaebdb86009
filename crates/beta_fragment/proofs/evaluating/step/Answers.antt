use Rattle.std.proofs.Common.{◌++◌, ◌∷◌, [], sym, subst}
use Rattle.std.proofs.lemmas.Result.{on_ok_weaker}
use Rattle.beta_fragment.specs.inside.Cells.{terms_of}
use Rattle.beta_fragment.specs.declared.evaluating.Task.{Task}
use Rattle.beta_fragment.specs.inside.Evaluation.{Steps, done_terms}
use Rattle.beta_fragment.proofs.evaluating.step.Goals as goal

pub returns-in-App-clause-steps : goal.returns-in-App-clause-steps
returns-in-App-clause-steps c =
    on_ok_weaker c.make_app.result
    (λ f.
    subst (λ (k : Task). Steps c.args.heap.now (record { work = c.args.work.now.items ++ k ∷ []; entries = c.args.entries.now.items; under = c.args.under.now; terms = done_terms (terms_of c.args.cells.now) c.args.done.now.items }) (record { work = c.args.work.now.items; entries = c.args.entries.now.items; under = c.args.under.now; terms = done_terms (terms_of c.make_app.new.cells) c.make_app.new.done.items })) (sym c.in-App.is)
    (f c.args.work.now.items c.args.entries.now.items c.args.under.now))
    c.make_app.ensures.steps
