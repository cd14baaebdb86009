use Rattle.std.proofs.Common.{[]}
use Rattle.level_terms.proofs.GrowthLemmas.{grows-refl}
use Rattle.goal_run.proofs.page.write_variable.Goals as goal

pub returns-clause-grows : goal.returns-clause-grows
returns-clause-grows c = grows-refl c.args.heap.now []
