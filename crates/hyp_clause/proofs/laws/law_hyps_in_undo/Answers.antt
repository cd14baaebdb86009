use Rattle.hyp_clause.proofs.LawLemmas as lemmas
use Rattle.hyp_clause.proofs.laws.law_hyps_in_undo.Goals as goal

pub returns-clause-below : goal.returns-clause-below
returns-clause-below c = lemmas.hyps-below

pub returns-clause-valid : goal.returns-clause-valid
returns-clause-valid c = lemmas.hyps-undone
