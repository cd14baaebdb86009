use Rattle.ref_terms.specs.terms.Term as term
use Rattle.beta_fragment.specs.inside.Cells.{terms_of, term_at}
use Rattle.beta_fragment.proofs.ApplyingLemmas.{added-or_same}
use Rattle.beta_fragment.proofs.applying.applied_term.Goals as goal

pub returns-in-Rigid-clause-gains : goal.returns-in-Rigid-clause-gains
returns-in-Rigid-clause-gains c = added-or_same c.add.result c.args.cells.now c.add.new.self (term.App (term_at (terms_of c.args.cells.now) c.args.f) (term_at (terms_of c.args.cells.now) c.args.a)) c.add.ensures.added c.add.ensures.unchanged

pub returns-in-Bound-clause-gains : goal.returns-in-Bound-clause-gains
returns-in-Bound-clause-gains c = added-or_same c.add-in-Bound.result c.args.cells.now c.add-in-Bound.new.self (term.App (term_at (terms_of c.args.cells.now) c.args.f) (term_at (terms_of c.args.cells.now) c.args.a)) c.add-in-Bound.ensures.added c.add-in-Bound.ensures.unchanged

pub returns-in-Var-clause-gains : goal.returns-in-Var-clause-gains
returns-in-Var-clause-gains c = added-or_same c.add-in-Var.result c.args.cells.now c.add-in-Var.new.self (term.App (term_at (terms_of c.args.cells.now) c.args.f) (term_at (terms_of c.args.cells.now) c.args.a)) c.add-in-Var.ensures.added c.add-in-Var.ensures.unchanged

pub returns-in-App-clause-gains : goal.returns-in-App-clause-gains
returns-in-App-clause-gains c = added-or_same c.add-in-App.result c.args.cells.now c.add-in-App.new.self (term.App (term_at (terms_of c.args.cells.now) c.args.f) (term_at (terms_of c.args.cells.now) c.args.a)) c.add-in-App.ensures.added c.add-in-App.ensures.unchanged
