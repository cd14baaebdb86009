use Rattle.level_terms.proofs.ReadingLemmas as lemmas
use Rattle.level_terms.proofs.laws.law_assignment.Goals as goal

pub returns : goal.returns
returns c = lemmas.assignment_instantiates
