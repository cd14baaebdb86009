use Rattle.beta_fragment.specs.inside.Cells.{terms_of, term_at}
use Rattle.std.proofs.Common.{refl}
use Rattle.beta_fragment.proofs.CellLemmas.{gains-refl}
use Rattle.beta_fragment.proofs.TakingSteps.{kept-steps}
use Rattle.beta_fragment.proofs.taking.keep.Goals as goal

pub returns-clause-steps : goal.returns-clause-steps
returns-clause-steps c = λ work.
    kept-steps c.args.put (terms_of c.args.cells.now) (terms_of c.args.cells.now) work c.args.done.now.items c.push.new.self.items c.args.part c.args.under c.args.part (term_at (terms_of c.args.cells.now) c.args.part)
    (gains-refl (terms_of c.args.cells.now)) c.requires.done c.requires.stays (record { there = c.requires.there; term = refl }) c.in_ok-push.ensures.items
