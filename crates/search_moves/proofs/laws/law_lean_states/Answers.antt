use Rattle.search_moves.proofs.LeanLemmas.{lean-shows}
use Rattle.search_moves.proofs.laws.law_lean_states.Goals as goal

pub returns : goal.returns
returns c = lean-shows
