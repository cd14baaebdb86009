use Rattle.std.proofs.Common.{◌-◌, refl}
use Rattle.beta_fragment.specs.inside.Cells.{terms_of}
use Rattle.beta_fragment.proofs.EvaluationLemmas.{steps-lam, lam-done}
use Rattle.beta_fragment.proofs.evaluating.make_lam.Goals as goal

pub returns-clause-steps : goal.returns-clause-steps
returns-clause-steps c = λ work.
    steps-lam c.args.heap.now work c.args.made c.args.before c.args.entries.now.items c.leave.new.entries.items c.args.under.now (c.args.under.now - 1) (terms_of c.args.cells.now) (terms_of c.abstracted_term.new.cells) c.args.done.now.items c.push.new.self.items c.pop.new.self.items c.in-Some.body c.in_ok-r-in-Some.r
    c.in-Some.ensures.items c.in_ok-push-in-Some.ensures.items c.in_ok-r-in-Some.ensures.gains c.requires.done c.in_ok-r-in-Some.ensures.abstracted.term c.leave.ensures refl

pub returns-clause-done : goal.returns-clause-done
returns-clause-done c =
    lam-done c.args.heap.now (terms_of c.args.cells.now) (terms_of c.abstracted_term.new.cells) c.args.done.now.items c.push.new.self.items c.pop.new.self.items c.in-Some.body c.in_ok-r-in-Some.r
    c.in-Some.ensures.items c.in_ok-push-in-Some.ensures.items c.in_ok-r-in-Some.ensures.gains c.requires.done c.in_ok-r-in-Some.ensures.abstracted
