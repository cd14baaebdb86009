use Rattle.ref_terms.specs.terms.Term as term
use Rattle.beta_fragment.specs.inside.Cells.{terms_of, term_at}
use Rattle.beta_fragment.proofs.ApplyingLemmas.{added-or_same}
use Rattle.beta_fragment.proofs.applying.applied_lam.Goals as goal

pub returns-clause-gains : goal.returns-clause-gains
returns-clause-gains c = added-or_same c.add.result c.args.cells.now c.add.new.self (term.App (term_at (terms_of c.args.cells.now) c.args.f) (term_at (terms_of c.args.cells.now) c.args.a)) c.add.ensures.added c.add.ensures.unchanged
