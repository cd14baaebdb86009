use Rattle.lp_resolve.proofs.PredicateLemmas.{pred_at-gathered}
use Rattle.lp_resolve.proofs.laws.law_predicates.Goals as goal

pub returns : goal.returns
returns c lines clauses s = pred_at-gathered lines clauses s
