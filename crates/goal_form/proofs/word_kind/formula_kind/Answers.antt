use Rattle.std.proofs.Common.{◌≡◌, List, [], ◌∷◌, ap, ◌∙◌, sym, subst}
use Rattle.level_terms.specs.Reading.{read}
use Rattle.level_terms.specs.declared.node.TermId.{TermId}
use Rattle.ref_terms.specs.search.Formula.{Wrong, reserved_goal}
use Rattle.beta_fragment.specs.HeadForm.{AllValidAt, all_read}
use Rattle.beta_fragment.specs.Names.{names}
use Rattle.goal_form.specs.Kinds.{IsKindAt}
use Rattle.goal_form.proofs.SliceLemmas.{no-items, one-item, two-items, three-or_more}
use Rattle.goal_form.proofs.WordLemmas.{misfit-of_more}
use Rattle.goal_form.proofs.word_kind.formula_kind.Goals as goal

pub returns-in-empty : goal.returns-in-empty
returns-in-empty c = λ g depth v. subst (λ (xs : List TermId). IsKindAt g depth (reserved_goal c.args.word (all_read g xs)) c.bare_kind.result) (sym (no-items c.args.args.now c.in-empty.len_below)) (c.bare_kind.ensures g depth)

pub returns-in-len1 : goal.returns-in-len1
returns-in-len1 c = λ g depth v.
    let e = one-item c.args.args.now (record { index = 0 }) c.in-len1.len_at_least c.in-len1.len_below in
    subst (λ (xs : List TermId). IsKindAt g depth (reserved_goal c.args.word (all_read g xs)) c.kind_of_one.result) (sym e)
    (c.kind_of_one.ensures g depth (subst (λ (xs : List TermId). AllValidAt g xs depth) e v).0)

pub returns-in-len2 : goal.returns-in-len2
returns-in-len2 c = λ g depth v.
    let e = two-items c.args.args.now (record { index = 0 }) c.in-len2.len_at_least c.in-len2.len_below in
    let w = subst (λ (xs : List TermId). AllValidAt g xs depth) e v in
    subst (λ (xs : List TermId). IsKindAt g depth (reserved_goal c.args.word (all_read g xs)) c.kind_of_two.result) (sym e) (c.kind_of_two.ensures g depth w.0 w.1.0)

pub returns-in_default : goal.returns-in_default
returns-in_default c = λ g depth v.
    let w = three-or_more c.args.args.now c.in_default.len_at_least in (
      ap Wrong c.misfit.ensures ∙ misfit-of_more c.args.word (read g w.0.index names) (read g w.1.index names) (read g w.2.index names) (all_read g w.3) c.requires
          ∙ ap (λ (xs : List TermId). reserved_goal c.args.word (all_read g xs)) (sym w.4),
      tt,
    )
