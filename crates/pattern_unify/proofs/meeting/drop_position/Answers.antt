use Rattle.level_terms.proofs.GrowthLemmas.{grows-refl}
use Rattle.pattern_unify.proofs.meeting.drop_position.Goals as goal

pub returns-in_err-kept-clause-grows : goal.returns-in_err-kept-clause-grows
returns-in_err-kept-clause-grows c = grows-refl c.args.heap.now c.args.trail.now.entries
