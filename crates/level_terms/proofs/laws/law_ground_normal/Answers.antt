use Rattle.level_terms.proofs.GroundLemmas as lemmas
use Rattle.level_terms.proofs.laws.law_ground_normal.Goals as goal

pub returns-clause-stays : goal.returns-clause-stays
returns-clause-stays c = lemmas.ground_normal-grown

pub returns-clause-undone : goal.returns-clause-undone
returns-clause-undone c = lemmas.ground_normal-undone

pub returns-clause-reads : goal.returns-clause-reads
returns-clause-reads c = lemmas.ground_normal-reads

pub returns-clause-unreached : goal.returns-clause-unreached
returns-clause-unreached c = lemmas.ground_normal-unreached

pub returns-clause-term : goal.returns-clause-term
returns-clause-term c = lemmas.ground_normal-term
