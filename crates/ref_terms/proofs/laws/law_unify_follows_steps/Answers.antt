use Rattle.ref_terms.proofs.unification.Steps.{unify-goes, unify-ends}
use Rattle.ref_terms.proofs.laws.law_unify_follows_steps.Goals as goal

pub returns-clause-goes : goal.returns-clause-goes
returns-clause-goes c = unify-goes

pub returns-clause-ends : goal.returns-clause-ends
returns-clause-ends c = unify-ends
