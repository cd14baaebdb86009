use Rattle.hyp_clause.proofs.LawLemmas as lemmas
use Rattle.hyp_clause.proofs.laws.law_hyps_under_bindings.Goals as goal

pub returns : goal.returns
returns c = lemmas.hyps-bound
