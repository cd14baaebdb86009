use Rattle.suspend.proofs.LogLemmas as lemmas
use Rattle.suspend.proofs.laws.law_numbers.Goals as goal

pub returns-clause-ascend : goal.returns-clause-ascend
returns-clause-ascend c s = lemmas.numbers-ascend

pub returns-clause-below : goal.returns-clause-below
returns-clause-below c s = lemmas.numbers-below
