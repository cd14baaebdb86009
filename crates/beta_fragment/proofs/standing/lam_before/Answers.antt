use Rattle.std.proofs.Common.{[]}
use Rattle.level_terms.proofs.GrowthLemmas.{grows-refl}
use Rattle.beta_fragment.proofs.standing.lam_before.Goals as goal

pub returns-then-is_empty-clause-grows : goal.returns-then-is_empty-clause-grows
returns-then-is_empty-clause-grows c = grows-refl c.args.heap.now []

pub returns-then-is_first_unready-clause-grows : goal.returns-then-is_first_unready-clause-grows
returns-then-is_first_unready-clause-grows c = grows-refl c.args.heap.now []
