use Rattle.ref_terms.specs.unification.Unification.{unify}
use Rattle.ref_terms.proofs.search.UnifyFair.{unify-fair}
use Rattle.ref_terms.proofs.search.StripMoves.{next-strips}
use Rattle.ref_terms.proofs.search.StripAlike.{strip-alike, stripped-alike, stripped-events}
use Rattle.ref_terms.proofs.laws.law_stripped_states.Goals as goal

pub returns-clause-moves : goal.returns-clause-moves
returns-clause-moves c = next-strips unify

pub returns-clause-strips : goal.returns-clause-strips
returns-clause-strips c = strip-alike unify unify-fair

pub returns-clause-alike : goal.returns-clause-alike
returns-clause-alike c = stripped-alike unify unify-fair

pub returns-clause-run : goal.returns-clause-run
returns-clause-run c = stripped-events unify unify-fair
