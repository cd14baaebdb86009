use Rattle.ref_terms.proofs.unification.GeneralRun.{most-general}
use Rattle.ref_terms.proofs.laws.law_most_general.Goals as goal

pub returns : goal.returns
returns c = most-general
