use Rattle.std.proofs.Common.{◌∙◌, []}
use Rattle.level_terms.proofs.GrowthLemmas.{grows-refl}
use Rattle.hyp_clause.specs.inside.Parts.{task_of}
use Rattle.hyp_clause.proofs.PartLemmas.{clause-older}
use Rattle.hyp_clause.proofs.reading.clause.Goals as goal

pub returns-in_err-body-clause-grows : goal.returns-in_err-body-clause-grows
returns-in_err-body-clause-grows c = grows-refl c.args.heap.now []

pub returns-in_err-under-clause-grows : goal.returns-in_err-under-clause-grows
returns-in_err-under-clause-grows c = grows-refl c.args.heap.now []

pub are_all_fixed-ground_normal-requires : goal.are_all_fixed-ground_normal-requires
are_all_fixed-ground_normal-requires c =
    clause-older c.args.heap.now c.assumed_by.new.heap c.args.depth (task_of c.args.part.now) c.in_ok-term.term c.as_slice.result.now c.assumed_by.ensures.grows c.requires c.in_ok-term.ensures.valid (c.as_slice.ensures ∙ c.in_ok-body.ensures)
