use Rattle.std.proofs.Common.{[]}
use Rattle.level_terms.proofs.GrowthLemmas.{grows-refl}
use Rattle.eigen_align.proofs.lifting.context_over.Goals as goal

pub returns-in-None-clause-grows : goal.returns-in-None-clause-grows
returns-in-None-clause-grows c = grows-refl c.args.heap.now []
