use Rattle.level_terms.proofs.GainLemmas.{gains-refl}
use Rattle.suspend.proofs.store.Store.awake.Goals as goal

pub returns-in_err-refill-clause-gains : goal.returns-in_err-refill-clause-gains
returns-in_err-refill-clause-gains g c = gains-refl c.args.heap.now
