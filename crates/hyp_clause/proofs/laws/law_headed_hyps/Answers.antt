use Rattle.hyp_clause.proofs.HeadedLemmas as lemmas
use Rattle.hyp_clause.proofs.laws.law_headed_hyps.Goals as goal

pub returns-clause-assumed : goal.returns-clause-assumed
returns-clause-assumed c = lemmas.assumed-headed

pub returns-clause-scoped : goal.returns-clause-scoped
returns-clause-scoped c = lemmas.assumed-scoped

pub returns-clause-bound : goal.returns-clause-bound
returns-clause-bound c = lemmas.bound-headed

pub returns-clause-arguments : goal.returns-clause-arguments
returns-clause-arguments c = lemmas.arguments-headed
