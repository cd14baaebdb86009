use Rattle.std.proofs.Common.{[]}
use Rattle.level_terms.proofs.GrowthLemmas.{grows-refl}
use Rattle.pattern_unify.proofs.filling.step.Goals as goal

pub returns-in-Visit-clause-grows : goal.returns-in-Visit-clause-grows
returns-in-Visit-clause-grows c = grows-refl c.args.heap.now []
