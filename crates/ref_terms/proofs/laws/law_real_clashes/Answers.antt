use Rattle.ref_terms.proofs.unification.RealClash.{real-clash}
use Rattle.ref_terms.proofs.unification.RealRuns.{real-clashes}
use Rattle.ref_terms.proofs.laws.law_real_clashes.Goals as goal

pub returns-clause-rule : goal.returns-clause-rule
returns-clause-rule c = real-clash

pub returns-clause-run : goal.returns-clause-run
returns-clause-run c = real-clashes
