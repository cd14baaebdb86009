use Rattle.std.proofs.Common.{slice_index}
use Rattle.level_terms.proofs.ReadLemmas.{valid-below}
use Rattle.suspend.proofs.following.renamed_to.Goals as goal

pub free_variable-requires : goal.free_variable-requires
free_variable-requires c = valid-below c.args.heap.now c.in-Some.t.index (slice_index c.args.heap.now.depths c.args.v.index) c.in-Some.ensures.valid
