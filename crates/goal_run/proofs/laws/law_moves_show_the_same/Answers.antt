use Rattle.ref_terms.specs.unification.Unification.{unify}
use Rattle.ref_terms.specs.search.Next.{next}
use Rattle.ref_terms.proofs.search.CountedMoves.{next-counted}
use Rattle.search_moves.proofs.LeanLemmas.{lean-shows}
use Rattle.goal_run.specs.Machine.{state_of}
use Rattle.goal_run.proofs.laws.law_moves_show_the_same.Goals as goal

pub returns : goal.returns
returns c = λ p old new e counted moved. lean-shows p (next unify p (state_of p old)).state (state_of p new) (next-counted unify p (state_of p old) counted) moved.state
