use Rattle.std.proofs.Common.{subst}
use Rattle.ref_terms.specs.terms.Term as term
use Rattle.ref_terms.specs.terms.Eta.{eta}
use Rattle.beta_fragment.specs.inside.Cells.{terms_of, term_at, IsKeptIfAny}
use Rattle.beta_fragment.proofs.CellLemmas.{gains-trans}
use Rattle.beta_fragment.proofs.ApplyingLemmas.{added-or_same, abstracted-kept}
use Rattle.beta_fragment.proofs.applying.abstracted_term.Goals as goal

pub returns-in-None-clause-abstracted : goal.returns-in-None-clause-abstracted
returns-in-None-clause-abstracted c =
    abstracted-kept c.add.result (terms_of c.args.cells.now) (terms_of c.contracted.new.cells) (terms_of c.add.new.self) c.args.body c.in_ok-t.ensures.gains c.requires
    (subst (λ o. IsKeptIfAny (terms_of c.contracted.new.cells) o (eta (term_at (terms_of c.args.cells.now) c.args.body))) c.in-None.is c.in_ok-t.ensures.contracted)
    c.add.ensures.number c.add.ensures.added

pub returns-in-None-clause-gains : goal.returns-in-None-clause-gains
returns-in-None-clause-gains c =
    gains-trans (terms_of c.args.cells.now) (terms_of c.contracted.new.cells) (terms_of c.add.new.self) c.in_ok-t.ensures.gains
    (added-or_same c.add.result c.contracted.new.cells c.add.new.self (term.Lam (term_at (terms_of c.contracted.new.cells) c.args.body)) c.add.ensures.added c.add.ensures.unchanged)
