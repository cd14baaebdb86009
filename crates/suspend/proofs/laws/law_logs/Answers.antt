use Rattle.suspend.proofs.LogLemmas as lemmas
use Rattle.suspend.proofs.laws.law_logs.Goals as goal

pub returns-clause-reflexive : goal.returns-clause-reflexive
returns-clause-reflexive c s = lemmas.later-itself

pub returns-clause-transitive : goal.returns-clause-transitive
returns-clause-transitive c s = lemmas.later-later

pub returns-clause-oldest : goal.returns-clause-oldest
returns-clause-oldest c s = lemmas.oldest-earlier

pub returns-clause-twice : goal.returns-clause-twice
returns-clause-twice c s = lemmas.oldest-twice
