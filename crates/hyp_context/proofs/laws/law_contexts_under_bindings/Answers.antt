use Rattle.hyp_context.proofs.ChangeLemmas as lemmas
use Rattle.hyp_context.proofs.laws.law_contexts_under_bindings.Goals as goal

pub returns : goal.returns
returns c = lemmas.bindings-reach
