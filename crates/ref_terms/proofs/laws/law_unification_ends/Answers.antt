use Rattle.ref_terms.specs.ending.Ending.{unification-ends}
use Rattle.ref_terms.proofs.laws.law_unification_ends.Goals as goal

pub returns : goal.returns
returns c = unification-ends
