use Rattle.clause_compile.proofs.BoundLemmas.{bindings-replace, filled-bound, body-bound}
use Rattle.clause_compile.proofs.laws.law_body_is_bound.Goals as goal

pub returns-clause-replaces : goal.returns-clause-replaces
returns-clause-replaces c = bindings-replace

pub returns-clause-filled : goal.returns-clause-filled
returns-clause-filled c = filled-bound

pub returns-clause-body : goal.returns-clause-body
returns-clause-body c = body-bound
