use Rattle.std.proofs.Common.{◌∙◌, List, map, ap}
use Rattle.level_terms.specs.declared.node.TermId.{TermId}
use Rattle.ref_terms.specs.search.Instance.{parameter_instance}
use Rattle.beta_fragment.specs.HeadForm.{all_read}
use Rattle.hyp_clause.specs.Hyps.{assumption_in}
use Rattle.hyp_clause.proofs.InstanceLemmas.{fresh-plain, instances-read}
use Rattle.hyp_clause.proofs.instance.hyp_body_of.Goals as goal

pub instances_of-requires-clause-plain : goal.instances_of-requires-clause-plain
instances_of-requires-clause-plain c =
    fresh-plain c.args.heap.now c.args.instance.now.depth c.args.instance.now.first_fresh.index c.args.hyp.now.pis c.args.instance.now.variables.items c.as_slice-2.result.now c.as_slice-2.ensures.value c.requires.fresh

pub returns-clause-body : goal.returns-clause-body
returns-clause-body c =
    let a = assumption_in c.args.heap.now c.args.hyp.now in
    let depth = c.args.instance.now.depth in
    let first = c.args.instance.now.first_fresh.index in
    c.in_ok-body.ensures.reads
    ∙ instances-read a depth first (all_read c.args.heap.now c.as_slice-2.result.now) (all_read c.args.heap.now c.as_slice.result.now) (ap (all_read c.args.heap.now) c.as_slice-2.ensures.value ∙ c.requires.fresh)
    ∙ ap (λ (ts : List TermId). map (parameter_instance a depth first) (all_read c.args.heap.now ts)) c.as_slice.ensures
