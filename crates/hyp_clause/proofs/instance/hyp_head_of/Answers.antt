use Rattle.std.proofs.Common.{rules, ◌≡◌, ◌∙◌, ◌+◌, List, [], length, refl, sym, ap, subst}
use Rattle.level_terms.specs.declared.node.TermId.{TermId}
use Rattle.level_terms.specs.Valid.{IsValid}
use Rattle.level_terms.proofs.GrowthLemmas.{grows-trans}
use Rattle.beta_fragment.specs.HeadForm.{all_read, AllValidAt}
use Rattle.beta_fragment.proofs.HeadLemmas.{valid-grown_all, read-grown_all}
use Rattle.hyp_clause.specs.Hyps.{assumption_in}
use Rattle.hyp_clause.proofs.FormLemmas.{valid-grown}
use Rattle.hyp_clause.proofs.InstanceLemmas.{fresh-plain, head-instance}
use Rattle.hyp_clause.proofs.instance.hyp_head_of.Goals as goal

pub arguments_of-requires : goal.arguments_of-requires
arguments_of-requires c =
    let under : c.in_ok-under.under ≡ c.args.hyp.now.depth + c.args.hyp.now.pis = search rules in
    subst (IsValid c.fresh_variables.new.heap c.args.hyp.now.head.index) (sym under)
    (valid-grown c.args.heap.now c.fresh_variables.new.heap c.is_sound.ensures c.fresh_variables.ensures.grows c.args.hyp.now.head.index (c.args.hyp.now.depth + c.args.hyp.now.pis) c.requires.valid.head)

pub returns-in_err-head-clause-grows : goal.returns-in_err-head-clause-grows
returns-in_err-head-clause-grows c = grows-trans c.args.heap.now c.fresh_variables.new.heap c.arguments_of.new.heap [] [] [] c.fresh_variables.ensures.grows c.arguments_of.ensures.grows

pub instances_of-requires-clause-puts : goal.instances_of-requires-clause-puts
instances_of-requires-clause-puts c =
    subst (λ (ts : List TermId). AllValidAt c.arguments_of.new.heap ts c.args.depth) (sym c.as_slice-2.ensures.value)
    (valid-grown_all c.fresh_variables.new.heap c.arguments_of.new.heap c.args.depth c.is_sound-2.ensures c.arguments_of.ensures.grows c.in_ok-variables.variables.items c.in_ok-variables.ensures.valid)

pub instances_of-requires-clause-plain : goal.instances_of-requires-clause-plain
instances_of-requires-clause-plain c =
    fresh-plain c.arguments_of.new.heap c.args.depth (length c.args.heap.now.depths) c.args.hyp.now.pis c.in_ok-variables.variables.items c.as_slice-2.result.now c.as_slice-2.ensures.value
    (read-grown_all c.fresh_variables.new.heap c.arguments_of.new.heap c.args.depth c.is_sound-2.ensures c.arguments_of.ensures.grows c.in_ok-variables.variables.items c.in_ok-variables.ensures.valid ∙ c.in_ok-variables.ensures.reads)

pub returns-in_err-args-clause-grows : goal.returns-in_err-args-clause-grows
returns-in_err-args-clause-grows c =
    grows-trans c.args.heap.now c.arguments_of.new.heap c.instances_of.new.heap [] [] []
    (grows-trans c.args.heap.now c.fresh_variables.new.heap c.arguments_of.new.heap [] [] [] c.fresh_variables.ensures.grows c.arguments_of.ensures.grows)
    c.instances_of.ensures.grows

pub returns-clause-args : goal.returns-clause-args
returns-clause-args c =
    let old = c.args.heap.now in
    let hyp = c.args.hyp.now in
    head-instance old c.fresh_variables.new.heap c.arguments_of.new.heap c.instances_of.new.heap (assumption_in old hyp) c.args.depth (length old.depths) hyp.head.index
    c.in_ok-variables.variables.items c.as_slice.result.now c.as_slice-2.result.now c.in_ok-args.args.items
    c.is_sound-2.ensures c.fresh_variables.ensures.grows c.arguments_of.ensures.grows c.is_sound.ensures (hyp.depth + hyp.pis) c.requires.valid.head c.in_ok-variables.ensures.valid
    refl c.in_ok-variables.ensures.reads (ap (all_read c.arguments_of.new.heap) c.as_slice.ensures ∙ c.in_ok-head.ensures.args) c.as_slice-2.ensures.value c.in_ok-args.ensures.reads

pub returns-clause-variables : goal.returns-clause-variables
returns-clause-variables c =
    read-grown_all c.fresh_variables.new.heap c.instances_of.new.heap c.args.depth c.is_sound-2.ensures
    (grows-trans c.fresh_variables.new.heap c.arguments_of.new.heap c.instances_of.new.heap [] [] [] c.arguments_of.ensures.grows c.instances_of.ensures.grows)
    c.in_ok-variables.variables.items c.in_ok-variables.ensures.valid
    ∙ c.in_ok-variables.ensures.reads

pub returns-clause-variables_valid : goal.returns-clause-variables_valid
returns-clause-variables_valid c =
    valid-grown_all c.fresh_variables.new.heap c.instances_of.new.heap c.args.depth c.is_sound-2.ensures
    (grows-trans c.fresh_variables.new.heap c.arguments_of.new.heap c.instances_of.new.heap [] [] [] c.arguments_of.ensures.grows c.instances_of.ensures.grows)
    c.in_ok-variables.variables.items c.in_ok-variables.ensures.valid

pub returns-clause-grows : goal.returns-clause-grows
returns-clause-grows c =
    grows-trans c.args.heap.now c.arguments_of.new.heap c.instances_of.new.heap [] [] []
    (grows-trans c.args.heap.now c.fresh_variables.new.heap c.arguments_of.new.heap [] [] [] c.fresh_variables.ensures.grows c.arguments_of.ensures.grows)
    c.instances_of.ensures.grows
