use Rattle.std.proofs.Common.{◌≡◌, [], List, length, reverse, refl, sym, ap, ◌∙◌, subst, arith}
use Rattle.std.proofs.lemmas.Result.{IfOk-weaker}
use Rattle.level_terms.specs.declared.node.TermId.{TermId}
use Rattle.level_terms.specs.Valid.{IsValid}
use Rattle.level_terms.specs.Reading.{read}
use Rattle.level_terms.proofs.GrowthLemmas.{grows-refl}
use Rattle.ref_terms.specs.unification.Spine.{apply_all}
use Rattle.beta_fragment.specs.Names.{names}
use Rattle.beta_fragment.specs.HeadForm.{AllValidAt, all_read}
use Rattle.beta_fragment.proofs.StandLemmas.{spine-before, own-below}
use Rattle.beta_fragment.proofs.standing.told.Goals as goal

pub settled-requires-clause-head : goal.settled-requires-clause-head
settled-requires-clause-head c = subst (IsValid c.args.heap.now c.args.t.index) (sym c.own-levels.ensures.count) c.requires.valid

pub settled-requires-clause-args : goal.settled-requires-clause-args
settled-requires-clause-args c =
    let turned = ap reverse (c.as_slice-2.ensures ∙ c.in_ok-stack.ensures ∙ ap reverse c.as_slice.ensures) in
    (spine-before c.args.heap.now c.args.depth c.args.t.index c.own-levels.result c.args.args _ c.requires.valid c.own-levels.ensures.own c.requires.args (c.as_slice-2.ensures ∙ c.in_ok-stack.ensures ∙ ap reverse c.as_slice.ensures)).valid

pub settled-requires-clause-below : goal.settled-requires-clause-below
settled-requires-clause-below c = own-below c.args.depth c.own-levels.result c.own-levels.ensures.count c.own-levels.ensures.own

pub returns-clause-form : goal.returns-clause-form
returns-clause-form c = IfOk-weaker c.settled.result _ _
    (λ w f. f (apply_all (read c.args.heap.now c.args.t.index names) (all_read c.args.heap.now c.args.args))
    (spine-before c.args.heap.now c.args.depth c.args.t.index c.own-levels.result c.args.args _ c.requires.valid c.own-levels.ensures.own c.requires.args (c.as_slice-2.ensures ∙ c.in_ok-stack.ensures ∙ ap reverse c.as_slice.ensures)))
    c.settled.ensures.form

pub returns-in_err-stack-clause-grows : goal.returns-in_err-stack-clause-grows
returns-in_err-stack-clause-grows c = grows-refl c.args.heap.now []
