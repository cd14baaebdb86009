use Rattle.beta_fragment.specs.inside.Cells.{terms_of}
use Rattle.beta_fragment.proofs.TakingSteps.{visits-app}
use Rattle.beta_fragment.proofs.taking.visit_app.Goals as goal

pub returns : goal.returns
returns c = λ done.
    visits-app c.args.put (terms_of c.args.cells.now) c.args.work.now.items c.push.new.self.items c.push-2.new.self.items c.push-3.new.self.items done c.args.part c.args.under c.args.f c.args.a c.requires.function c.requires.argument c.requires.here c.in_ok-push.ensures.items c.in_ok-push-2.ensures.items c.in_ok-push-3.ensures.items
