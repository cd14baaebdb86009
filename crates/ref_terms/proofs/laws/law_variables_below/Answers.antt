use Rattle.ref_terms.proofs.search.BelowMoves.{first-below, next-below}
use Rattle.ref_terms.proofs.laws.law_variables_below.Goals as goal

pub returns-clause-first : goal.returns-clause-first
returns-clause-first c = first-below

pub returns-clause-moves : goal.returns-clause-moves
returns-clause-moves c = next-below
