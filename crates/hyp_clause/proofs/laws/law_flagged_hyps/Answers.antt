use Rattle.hyp_clause.proofs.FixedLemmas as lemmas
use Rattle.hyp_clause.proofs.laws.law_flagged_hyps.Goals as goal

pub returns-clause-same : goal.returns-clause-same
returns-clause-same c = lemmas.flagged-read_same

pub returns-clause-no_variable : goal.returns-clause-no_variable
returns-clause-no_variable c = lemmas.flagged-no_variable

pub returns-clause-ground : goal.returns-clause-ground
returns-clause-ground c = lemmas.flagged-ground
