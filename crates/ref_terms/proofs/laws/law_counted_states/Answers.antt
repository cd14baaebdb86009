use Rattle.ref_terms.specs.unification.Unification.{unify}
use Rattle.ref_terms.proofs.search.CountedMoves.{next-counted, first-counted}
use Rattle.ref_terms.proofs.laws.law_counted_states.Goals as goal

pub returns-clause-first : goal.returns-clause-first
returns-clause-first c = first-counted

pub returns-clause-moves : goal.returns-clause-moves
returns-clause-moves c = next-counted unify
