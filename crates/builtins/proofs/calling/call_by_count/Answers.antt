use Rattle.level_terms.proofs.GrowthLemmas.{grows-refl}
use Rattle.builtins.proofs.calling.call_by_count.Goals as goal

pub returns-in_default-clause-grows : goal.returns-in_default-clause-grows
returns-in_default-clause-grows c = grows-refl c.args.heap.now c.args.trail.now.entries

pub returns-in_default-2-clause-grows : goal.returns-in_default-2-clause-grows
returns-in_default-2-clause-grows c = grows-refl c.args.heap.now c.args.trail.now.entries
