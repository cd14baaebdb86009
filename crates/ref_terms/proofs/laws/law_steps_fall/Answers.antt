use Rattle.ref_terms.proofs.unification.Steps.{steps-fall, steps-last}
use Rattle.ref_terms.proofs.laws.law_steps_fall.Goals as goal

pub returns-clause-goes : goal.returns-clause-goes
returns-clause-goes c = steps-fall

pub returns-clause-ends : goal.returns-clause-ends
returns-clause-ends c = steps-last
