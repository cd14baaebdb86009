use Rattle.std.proofs.Common.{refl}
use Rattle.search_moves.proofs.SavedLemmas.{popped-reads, all-dropped}
use Rattle.search_moves.proofs.laws.law_retry.Goals as goal

pub returns-clause-popped : goal.returns-clause-popped
returns-clause-popped c = λ p w a older h. (refl, popped-reads p w a older h, h.1)

pub returns-clause-dropped : goal.returns-clause-dropped
returns-clause-dropped c = all-dropped
