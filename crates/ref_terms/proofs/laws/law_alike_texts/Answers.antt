use Rattle.ref_terms.specs.unification.Unification.{unify}
use Rattle.ref_terms.proofs.search.UnifyFair.{unify-fair}
use Rattle.ref_terms.proofs.search.AlikeRuns.{alike-shown, events-alike}
use Rattle.ref_terms.proofs.laws.law_alike_texts.Goals as goal

pub returns-clause-event : goal.returns-clause-event
returns-clause-event c = alike-shown

pub returns-clause-run : goal.returns-clause-run
returns-clause-run c = events-alike unify unify-fair
