use Rattle.beta_fragment.specs.inside.Cells.{terms_of}
use Rattle.beta_fragment.proofs.TakingSteps.{visits-lam}
use Rattle.beta_fragment.proofs.taking.visit_lam.Goals as goal

pub returns : goal.returns
returns c = λ done.
    visits-lam c.args.put (terms_of c.args.cells.now) c.args.work.now.items c.push.new.self.items c.push-2.new.self.items done c.args.part c.args.under c.args.body c.in_ok-inner.inner c.requires.body c.requires.here c.in_ok-inner.ensures c.in_ok-push.ensures.items c.in_ok-push-2.ensures.items
