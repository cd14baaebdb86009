use Rattle.std.proofs.Common.{◌∙◌, List, [], sym, ap, subst}
use Rattle.ref_terms.specs.search.Lists.{list_term}
use Rattle.level_terms.specs.declared.node.TermId.{TermId}
use Rattle.level_terms.proofs.GrowthLemmas.{grows-refl}
use Rattle.beta_fragment.specs.HeadForm.{all_read, AllValidAt}
use Rattle.hyp_context.specs.Lists.{numbers_of}
use Rattle.hyp_context.proofs.ListLemmas.{nodes-valid, nodes-read}
use Rattle.hyp_context.proofs.context.Context.as_list.Goals as goal

pub returns-in_err-terms-clause-grows : goal.returns-in_err-terms-clause-grows
returns-in_err-terms-clause-grows c = grows-refl c.args.heap.now []

pub list_of-requires : goal.list_of-requires
list_of-requires c =
    subst (λ (ts : List TermId). AllValidAt c.args.heap.now ts c.args.depth) (sym (c.as_slice.ensures.value ∙ c.in_ok-terms.ensures))
    (nodes-valid c.args.heap.now c.args.depth (numbers_of c.args.preds.now) c.args.self.now c.requires.valid c.requires.depth)

pub returns-clause-reads : goal.returns-clause-reads
returns-clause-reads c =
    c.in_ok-list.ensures.reads
    ∙ ap (λ (ts : List TermId). list_term (all_read c.args.heap.now ts)) (c.as_slice.ensures.value ∙ c.in_ok-terms.ensures)
    ∙ ap list_term (nodes-read c.args.heap.now (numbers_of c.args.preds.now) c.args.self.now)
