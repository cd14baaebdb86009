use Rattle.ref_terms.specs.lemmas.ReadyFacts.{ready-name, ready-bound, ready-rigid}
use Rattle.ref_terms.proofs.terms.OpeningLemmas.{ready-inst, ready-open, unready-open}
use Rattle.ref_terms.proofs.laws.law_ready.Goals as goal

pub returns-clause-name : goal.returns-clause-name
returns-clause-name c = ready-name

pub returns-clause-bound_index : goal.returns-clause-bound_index
returns-clause-bound_index c = ready-bound

pub returns-clause-rigid : goal.returns-clause-rigid
returns-clause-rigid c = ready-rigid

pub returns-clause-instance : goal.returns-clause-instance
returns-clause-instance c = ready-inst

pub returns-clause-opening : goal.returns-clause-opening
returns-clause-opening c = ready-open

pub returns-clause-unready : goal.returns-clause-unready
returns-clause-unready c = unready-open
