use Rattle.suspend.proofs.KeyLemmas as keys
use Rattle.suspend.proofs.EventLemmas as lemmas
use Rattle.suspend.proofs.laws.law_keys.Goals as goal

pub returns-clause-sleeps : goal.returns-clause-sleeps
returns-clause-sleeps c s = keys.quiet-sleeps

pub returns-clause-assigning : goal.returns-clause-assigning
returns-clause-assigning c s = lemmas.after-assigning _

pub returns-clause-renaming : goal.returns-clause-renaming
returns-clause-renaming c s = lemmas.after-renaming _

pub returns-clause-growth : goal.returns-clause-growth
returns-clause-growth c s = lemmas.after-growth _

pub returns-clause-making : goal.returns-clause-making
returns-clause-making c s = lemmas.after-making _

pub returns-clause-gains : goal.returns-clause-gains
returns-clause-gains c s = lemmas.growth-gains

pub returns-clause-none : goal.returns-clause-none
returns-clause-none c s = lemmas.nothing-awake _
