use Rattle.ref_terms.proofs.unification.Sequence.{one-by-one}
use Rattle.ref_terms.proofs.laws.law_one_by_one.Goals as goal

pub returns : goal.returns
returns c = one-by-one
