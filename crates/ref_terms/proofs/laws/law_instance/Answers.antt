use Rattle.ref_terms.proofs.terms.OpeningLemmas.{inst-applies, inst-all-applies}
use Rattle.ref_terms.proofs.laws.law_instance.Goals as goal

pub returns-clause-one : goal.returns-clause-one
returns-clause-one c = inst-applies

pub returns-clause-all : goal.returns-clause-all
returns-clause-all c = inst-all-applies
