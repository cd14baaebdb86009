use Rattle.ref_terms.specs.unification.Unification.{unify}
use Rattle.ref_terms.proofs.search.UnifyFair.{unify-fair}
use Rattle.ref_terms.proofs.search.TouchedLemmas as lemmas
use Rattle.ref_terms.proofs.laws.law_refused_tuples.Goals as goal

pub returns-clause-stays : goal.returns-clause-stays
returns-clause-stays c = λ branch barrier f place r cs high below e. lemmas.refused-after-firing unify unify-fair branch barrier f place r cs high below e

pub returns-clause-fired : goal.returns-clause-fired
returns-clause-fired c = λ branch barrier f place r cs e. lemmas.fired-is-refused unify branch barrier f place r cs e

pub returns-clause-rest : goal.returns-clause-rest
returns-clause-rest c = λ branch barrier f place r before cs after high below split refused e. lemmas.rest-after-firing unify unify-fair branch barrier f place r before cs after high below split refused e
