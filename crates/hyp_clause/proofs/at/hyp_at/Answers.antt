use Rattle.std.proofs.Common.{◌∙◌, ℕ, [], map, ap₂, subst}
use Rattle.ref_terms.specs.search.Instance.{parameter_instance}
use Rattle.level_terms.proofs.GrowthLemmas.{grows-trans}
use Rattle.beta_fragment.specs.HeadForm.{AllValidAt}
use Rattle.hyp_clause.specs.Hyps.{assumption_in}
use Rattle.hyp_clause.proofs.AtLemmas.{made-at}
use Rattle.hyp_clause.proofs.HypLemmas.{hyp-valid}
use Rattle.hyp_clause.proofs.at.hyp_at.Goals as goal

pub hyp_body_of-requires-clause-valid : goal.hyp_body_of-requires-clause-valid
hyp_body_of-requires-clause-valid c = hyp-valid c.args.heap.now c.hyp_head_of.new.heap [] [] c.args.hyp.now c.is_sound.ensures c.hyp_head_of.ensures.grows c.requires.valid

pub returns-in_err-body-clause-grows : goal.returns-in_err-body-clause-grows
returns-in_err-body-clause-grows c = grows-trans c.args.heap.now c.hyp_head_of.new.heap c.hyp_body_of.new.heap [] [] [] c.hyp_head_of.ensures.grows c.hyp_body_of.ensures.grows

pub returns-clause-made : goal.returns-clause-made
returns-clause-made c =
    let a = assumption_in c.hyp_head_of.new.heap c.args.hyp.now in
    made-at c.args.heap.now c.hyp_head_of.new.heap c.hyp_body_of.new.heap c.args.hyp.now c.args.depth c.in_ok-instance.instance.args.items c.in_ok-body.body.items
    c.is_sound.ensures c.is_sound-2.ensures c.hyp_head_of.ensures.grows c.hyp_body_of.ensures.grows c.requires.valid c.requires.headed
    c.in_ok-instance.ensures.depths c.hyp_body_of.ensures.variables c.in_ok-instance.ensures.args c.in_ok-instance.ensures.valid
    (c.in_ok-body.ensures.body ∙ ap₂ (λ (d n : ℕ). map (parameter_instance a d n) a.conditions) c.in_ok-instance.ensures.depth c.in_ok-instance.ensures.first)
    (subst (AllValidAt c.hyp_body_of.new.heap c.in_ok-body.body.items) c.in_ok-instance.ensures.depth c.in_ok-body.ensures.valid)

pub returns-clause-grows : goal.returns-clause-grows
returns-clause-grows c = grows-trans c.args.heap.now c.hyp_head_of.new.heap c.hyp_body_of.new.heap [] [] [] c.hyp_head_of.ensures.grows c.hyp_body_of.ensures.grows
