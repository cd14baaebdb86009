use Rattle.ref_terms.proofs.terms.OpeningLemmas.{opening-is-replacing, application-opens}
use Rattle.ref_terms.proofs.laws.law_opening.Goals as goal

pub returns-clause-replaces : goal.returns-clause-replaces
returns-clause-replaces c = opening-is-replacing

pub returns-clause-applies : goal.returns-clause-applies
returns-clause-applies c = application-opens
