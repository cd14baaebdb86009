use Rattle.std.proofs.Common.{◌≡◌, ◌++◌, [], List, reverse, IfSome, Some, ap, ap₂, ◌∙◌, subst}
use Rattle.std.proofs.lemmas.List.{reverse-reverse}
use Rattle.level_terms.specs.declared.node.TermId.{TermId}
use Rattle.level_terms.specs.Reading.{read}
use Rattle.level_terms.proofs.GrowthLemmas.{grows-refl}
use Rattle.beta_fragment.specs.Names.{names}
use Rattle.beta_fragment.specs.HeadForm.{IsHeadForm}
use Rattle.level_terms.proofs.ReadLemmas.{valid-below}
use Rattle.beta_fragment.proofs.StandLemmas.{rigid-before}
use Rattle.beta_fragment.proofs.standing.form_before.Goals as goal

pub rigid_leaf-requires : goal.rigid_leaf-requires
rigid_leaf-requires c = valid-below c.args.heap.now c.args.t.index c.args.depth c.requires.valid

pub returns-in-Some-clause-grows : goal.returns-in-Some-clause-grows
returns-in-Some-clause-grows c = grows-refl c.args.heap.now []

pub returns-in_err-head-clause-grows : goal.returns-in_err-head-clause-grows
returns-in_err-head-clause-grows c = grows-refl c.args.heap.now []

pub returns-in_err-stack-in-Some-Rigid-clause-grows : goal.returns-in_err-stack-in-Some-Rigid-clause-grows
returns-in_err-stack-in-Some-Rigid-clause-grows c = grows-refl c.args.heap.now []

pub returns-in_err-list-in-Some-Rigid-clause-grows : goal.returns-in_err-list-in-Some-Rigid-clause-grows
returns-in_err-list-in-Some-Rigid-clause-grows c = grows-refl c.args.heap.now []

pub returns-in_ok-list-in-Some-Rigid-clause-grows : goal.returns-in_ok-list-in-Some-Rigid-clause-grows
returns-in_ok-list-in-Some-Rigid-clause-grows c = grows-refl c.args.heap.now []

pub returns-in_ok-list-in-Some-Rigid-clause-form : goal.returns-in_ok-list-in-Some-Rigid-clause-form
returns-in_ok-list-in-Some-Rigid-clause-form c =
    let seen = subst (λ o. IfSome o (λ w. IsHeadForm c.args.heap.now c.args.depth (read c.args.heap.now c.args.t.index names) w)) (c.in-Some-Rigid.is ∙ ap Some c.in-Some-Rigid.field-0-is) c.in_ok-head.ensures in
    let stack : c.in_ok-stack-in-Some-Rigid.stack ≡ reverse c.args.args = c.in_ok-stack-in-Some-Rigid.ensures ∙ ap reverse c.as_slice.ensures in
    let list : c.in_ok-list-in-Some-Rigid.list ≡ c.in-Some-Rigid.first ++ c.args.args =
    c.in_ok-list-in-Some-Rigid.ensures
    ∙ ap₂ (λ (xs ys : List TermId). xs ++ reverse ys) c.as_slice-in-Some-Rigid.ensures (c.as_slice-in-Some-Rigid-2.ensures ∙ stack)
    ∙ ap (λ (ys : List TermId). c.in-Some-Rigid.first ++ ys) (reverse-reverse c.args.args) in
    rigid-before c.args.heap.now c.args.depth (read c.args.heap.now c.args.t.index names) c.in-Some-Rigid.head c.in-Some-Rigid.first c.args.args c.in_ok-list-in-Some-Rigid.list seen c.requires.args list
