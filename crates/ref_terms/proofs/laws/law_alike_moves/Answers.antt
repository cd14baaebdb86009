use Rattle.ref_terms.specs.unification.Unification.{unify}
use Rattle.ref_terms.proofs.search.UnifyFair.{unify-fair}
use Rattle.ref_terms.proofs.search.NextVars.{next-renamed}
use Rattle.ref_terms.proofs.search.AlikeRuns.{next-alike}
use Rattle.ref_terms.proofs.laws.law_alike_moves.Goals as goal

pub returns-clause-renamed : goal.returns-clause-renamed
returns-clause-renamed c = next-renamed unify unify-fair

pub returns-clause-alike : goal.returns-clause-alike
returns-clause-alike c = next-alike unify unify-fair
