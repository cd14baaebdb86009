use Rattle.std.proofs.Common.{ap, ◌∙◌, subst}
use Rattle.ref_terms.specs.terms.Ready.{ready}
use Rattle.ref_terms.specs.lemmas.ReadyFacts.{ready-bound, ready-var, ready-lam}
use Rattle.beta_fragment.specs.inside.Cells.{term_at, cell_term, IsNoApp}
use Rattle.beta_fragment.proofs.TakingLaws.{rigid-ready}
use Rattle.beta_fragment.proofs.applying.is_ready_cell.Goals as goal

pub returns-in-Rigid : goal.returns-in-Rigid
returns-in-Rigid c = λ ts. ap (λ x. ready (cell_term ts x)) c.in-Rigid.is ∙ rigid-ready c.in-Rigid.field-0

pub returns-in-Bound : goal.returns-in-Bound
returns-in-Bound c = λ ts. ap (λ x. ready (cell_term ts x)) c.in-Bound.is ∙ ready-bound c.in-Bound.field-0

pub returns-in-Var : goal.returns-in-Var
returns-in-Var c = λ ts. ap (λ x. ready (cell_term ts x)) c.in-Var.is ∙ ready-var c.in-Var.field-0.index

pub returns-in-Lam : goal.returns-in-Lam
returns-in-Lam c = λ ts. ap (λ x. ready (cell_term ts x)) c.in-Lam.is ∙ ready-lam (term_at ts c.in-Lam.field-0)

pub unreachable-requires : goal.unreachable-requires
unreachable-requires c = subst IsNoApp c.in-App.is c.requires
