use Rattle.level_terms.proofs.GainLemmas.{gains-refl}
use Rattle.sequent_rules.proofs.bodies.goal_of.Goals as goal

pub returns-in-Some-clause-gains : goal.returns-in-Some-clause-gains
returns-in-Some-clause-gains c = gains-refl c.args.heap.now
