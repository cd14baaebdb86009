use Rattle.std.proofs.Common.{sym, ap, ◌∙◌, subst}
use Rattle.level_terms.specs.Reading.{read}
use Rattle.ref_terms.specs.terms.Term.{Term}
use Rattle.ref_terms.specs.search.BranchMove.{applied_whole}
use Rattle.beta_fragment.specs.HeadForm.{IsHeadForm}
use Rattle.beta_fragment.specs.Names.{names}
use Rattle.beta_fragment.specs.declared.answer.Whnf.TheVariants.{Rigid, Flex, Redex}
use Rattle.builtins.proofs.ApplyLemmas.{lam-whole, form-whole}
use Rattle.builtins.proofs.applying.by_form.Goals as goal

pub returns-in_ok-r-in-Lam-clause-reads : goal.returns-in_ok-r-in-Lam-clause-reads
returns-in_ok-r-in-Lam-clause-reads c =
    let f = subst (IsHeadForm c.args.heap.now c.args.depth (read c.args.heap.now c.args.f.index names)) c.in-Lam.is c.requires.form in
    lam-whole c.args.heap.now c.in-Lam.lam c.args.depth (read c.args.heap.now c.args.a.index names) _ c.is_sound.ensures f.0 c.in_ok-r-in-Lam.ensures.reads
    ∙ ap (λ (u : Term). applied_whole u (read c.args.heap.now c.args.a.index names)) (sym f.1)

pub returns-in_ok-r-in-Rigid-clause-reads : goal.returns-in_ok-r-in-Rigid-clause-reads
returns-in_ok-r-in-Rigid-clause-reads c =
    c.in_ok-r-in-Rigid.ensures.reads
    ∙ form-whole c.args.heap.now c.args.depth (read c.args.heap.now c.args.f.index names) (read c.args.heap.now c.args.a.index names) (Rigid c.in-Rigid.field-0 c.in-Rigid.field-1)
    (subst (IsHeadForm c.args.heap.now c.args.depth (read c.args.heap.now c.args.f.index names)) c.in-Rigid.is c.requires.form) (λ e. cc)

pub returns-in_ok-r-in-Flex-clause-reads : goal.returns-in_ok-r-in-Flex-clause-reads
returns-in_ok-r-in-Flex-clause-reads c =
    c.in_ok-r-in-Flex.ensures.reads
    ∙ form-whole c.args.heap.now c.args.depth (read c.args.heap.now c.args.f.index names) (read c.args.heap.now c.args.a.index names) (Flex c.in-Flex.field-0 c.in-Flex.field-1)
    (subst (IsHeadForm c.args.heap.now c.args.depth (read c.args.heap.now c.args.f.index names)) c.in-Flex.is c.requires.form) (λ e. cc)

pub returns-in_ok-r-in-Redex-clause-reads : goal.returns-in_ok-r-in-Redex-clause-reads
returns-in_ok-r-in-Redex-clause-reads c =
    c.in_ok-r-in-Redex.ensures.reads
    ∙ form-whole c.args.heap.now c.args.depth (read c.args.heap.now c.args.f.index names) (read c.args.heap.now c.args.a.index names) (Redex c.in-Redex.field-0 c.in-Redex.field-1)
    (subst (IsHeadForm c.args.heap.now c.args.depth (read c.args.heap.now c.args.f.index names)) c.in-Redex.is c.requires.form) (λ e. cc)
