use Rattle.level_terms.proofs.GainLemmas.{gains-refl}
use Rattle.sequent_rules.proofs.testing.test_of_one.Goals as goal

pub returns-in-None-clause-gains : goal.returns-in-None-clause-gains
returns-in-None-clause-gains c = gains-refl c.args.heap.now
