use Rattle.hyp_context.proofs.ContextLemmas as lemmas
use Rattle.hyp_context.proofs.laws.law_contexts_in_growth.Goals as goal

pub returns : goal.returns
returns c = lemmas.growth-keeps
