use Rattle.level_terms.proofs.GrowthLemmas as lemmas
use Rattle.level_terms.proofs.laws.law_undo_twice.Goals as goal

pub returns-clause-heap : goal.returns-clause-heap
returns-clause-heap c = lemmas.undo_twice

pub returns-clause-within : goal.returns-clause-within
returns-clause-within c = lemmas.earlier_within
