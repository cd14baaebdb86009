use Rattle.ref_terms.proofs.unification.Steps.{unify-reached, unify-only}
use Rattle.ref_terms.proofs.laws.law_unify_is_the_answer.Goals as goal

pub returns-clause-reached : goal.returns-clause-reached
returns-clause-reached c = unify-reached

pub returns-clause-only : goal.returns-clause-only
returns-clause-only c = unify-only
