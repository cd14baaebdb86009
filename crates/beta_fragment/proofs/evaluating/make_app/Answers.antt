use Rattle.beta_fragment.specs.inside.Cells.{terms_of}
use Rattle.beta_fragment.proofs.EvaluationLemmas.{steps-app, app-done}
use Rattle.beta_fragment.proofs.evaluating.make_app.Goals as goal

pub returns-clause-steps : goal.returns-clause-steps
returns-clause-steps c = λ work es u.
    steps-app c.args.heap.now work es u (terms_of c.args.cells.now) (terms_of c.applied_term.new.cells) c.args.done.now.items c.pop.new.self.items c.pop-in-Some.new.self.items c.push.new.self.items c.in-Some-pop.f c.in-Some.a c.in_ok-r-in-Some-pop.r
    c.in-Some.ensures.items c.in-Some-pop.ensures.items c.in_ok-push-in-Some-pop.ensures.items c.in_ok-r-in-Some-pop.ensures.gains c.requires.done c.in_ok-r-in-Some-pop.ensures.applied.term

pub returns-clause-done : goal.returns-clause-done
returns-clause-done c =
    app-done c.args.heap.now (terms_of c.args.cells.now) (terms_of c.applied_term.new.cells) c.args.done.now.items c.pop.new.self.items c.pop-in-Some.new.self.items c.push.new.self.items c.in-Some-pop.f c.in-Some.a c.in_ok-r-in-Some-pop.r
    c.in-Some.ensures.items c.in-Some-pop.ensures.items c.in_ok-push-in-Some-pop.ensures.items c.in_ok-r-in-Some-pop.ensures.gains c.requires.done c.in_ok-r-in-Some-pop.ensures.applied
