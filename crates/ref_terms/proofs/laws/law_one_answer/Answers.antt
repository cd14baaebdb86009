use Rattle.ref_terms.proofs.unification.OneAnswer.{one_answer}
use Rattle.ref_terms.proofs.laws.law_one_answer.Goals as goal

pub returns : goal.returns
returns c = one_answer
