use Rattle.hyp_context.proofs.ChangeLemmas as lemmas
use Rattle.hyp_context.proofs.laws.law_changeable.Goals as goal

pub returns-clause-variables : goal.returns-clause-variables
returns-clause-variables c = lemmas.variables-changeable

pub returns-clause-same : goal.returns-clause-same
returns-clause-same c = lemmas.unchangeable-same
