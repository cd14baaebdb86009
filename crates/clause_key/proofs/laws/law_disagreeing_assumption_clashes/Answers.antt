use Rattle.clause_key.proofs.AssumptionLemmas.{disagreeing-assumption}
use Rattle.clause_key.proofs.laws.law_disagreeing_assumption_clashes.Goals as goal

pub returns : goal.returns
returns c = disagreeing-assumption
