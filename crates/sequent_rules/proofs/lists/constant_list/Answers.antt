use Rattle.std.proofs.Common.{List, refl, sym, subst}
use Rattle.level_terms.specs.declared.node.TermId.{TermId}
use Rattle.beta_fragment.specs.HeadForm.{AllValidAt, all_read}
use Rattle.ref_terms.specs.terms.Term.{At, Con}
use Rattle.ref_terms.specs.unification.Spine.{apply_all}
use Rattle.goal_form.proofs.SliceLemmas.{no-items, one-item, two-items, three-or_more}
use Rattle.sequent_rules.specs.declared.lists.ListForm.TheVariants.{Other}
use Rattle.sequent_rules.specs.inside.Lists.{IsListForm}
use Rattle.sequent_rules.proofs.ItemLemmas.{more-none}
use Rattle.sequent_rules.proofs.lists.constant_list.Goals as goal

pub returns-in-empty : goal.returns-in-empty
returns-in-empty c = λ g depth v. subst (λ (xs : List TermId). IsListForm g depth (apply_all (At (Con c.args.c.0)) (all_read g xs)) c.bare_list.result) (sym (no-items c.args.args.now c.in-empty.len_below)) (c.bare_list.ensures g depth)

pub returns-in-len2 : goal.returns-in-len2
returns-in-len2 c = λ g depth v.
    let e = two-items c.args.args.now (record { index = 0 }) c.in-len2.len_at_least c.in-len2.len_below in
    let w = subst (λ (xs : List TermId). AllValidAt g xs depth) e v in
    subst (λ (xs : List TermId). IsListForm g depth (apply_all (At (Con c.args.c.0)) (all_read g xs)) c.pair_list.result) (sym e) (c.pair_list.ensures g depth w.0 w.1.0)

pub returns-in-len1 : goal.returns-in-len1
returns-in-len1 c = λ g depth v.
    let e = one-item c.args.args.now (record { index = 0 }) c.in-len1.len_at_least c.in-len1.len_below in
    subst (λ (xs : List TermId). IsListForm g depth (apply_all (At (Con c.args.c.0)) (all_read g xs)) Other) (sym e) refl

pub returns-in_default : goal.returns-in_default
returns-in_default c = λ g depth v.
    let w = three-or_more c.args.args.now c.in_default.len_at_least in
    subst (λ (xs : List TermId). IsListForm g depth (apply_all (At (Con c.args.c.0)) (all_read g xs)) Other) (sym w.4) (more-none c.args.c.0 _ _ _ (all_read g w.3))
