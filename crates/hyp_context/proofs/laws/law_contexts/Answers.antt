use Rattle.hyp_context.proofs.ContextLemmas as lemmas
use Rattle.hyp_context.proofs.laws.law_contexts.Goals as goal

pub returns-clause-assumed : goal.returns-clause-assumed
returns-clause-assumed c = lemmas.assumed-reads

pub returns-clause-for_pred : goal.returns-clause-for_pred
returns-clause-for_pred c = lemmas.for_pred-reads

pub returns-clause-empty : goal.returns-clause-empty
returns-clause-empty c = lemmas.empty-context

pub returns-clause-of_term : goal.returns-clause-of_term
returns-clause-of_term c = lemmas.assumed-context

pub returns-clause-deeper : goal.returns-clause-deeper
returns-clause-deeper c = lemmas.contexts-deeper
