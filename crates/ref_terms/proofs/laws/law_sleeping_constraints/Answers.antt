use Rattle.ref_terms.proofs.search.WakingLemmas.{sleeps-on}
use Rattle.ref_terms.proofs.laws.law_sleeping_constraints.Goals as goal

pub returns : goal.returns
returns c = sleeps-on
