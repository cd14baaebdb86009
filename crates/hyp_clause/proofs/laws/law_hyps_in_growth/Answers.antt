use Rattle.hyp_clause.proofs.HypLemmas as lemmas
use Rattle.hyp_clause.proofs.laws.law_hyps_in_growth.Goals as goal

pub returns-clause-valid : goal.returns-clause-valid
returns-clause-valid c = λ g h r s xs sound w v. lemmas.hyps-valid g h r s xs sound w v

pub returns-clause-reads : goal.returns-clause-reads
returns-clause-reads c = λ g h xs sound w v. lemmas.hyps-read g h xs sound w v
