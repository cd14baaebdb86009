use Rattle.std.proofs.Common.{subst, IfOk}
use Rattle.beta_fragment.specs.inside.Cells.{terms_of, term_at, IsKeptIfAny}
use Rattle.beta_fragment.proofs.TakingLaws.{lowered-image}
use Rattle.beta_fragment.proofs.taking.lowered_term.Goals as goal

pub returns-clause-lowered : goal.returns-clause-lowered
returns-clause-lowered c = subst (λ u. IfOk c.taken.result (λ o. IsKeptIfAny (terms_of c.taken.new.cells) o u)) (lowered-image (term_at (terms_of c.args.cells.now) c.args.t)) c.taken.ensures.taken
