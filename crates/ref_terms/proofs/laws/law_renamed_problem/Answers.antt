use Rattle.ref_terms.proofs.search.UnifyFair.{unify-renamed}
use Rattle.ref_terms.proofs.laws.law_renamed_problem.Goals as goal

pub returns : goal.returns
returns c = unify-renamed
