use Rattle.hyp_context.proofs.ChangeLemmas as lemmas
use Rattle.hyp_context.proofs.laws.law_contexts_in_undo.Goals as goal

pub returns : goal.returns
returns c = lemmas.undo-restores
