use Rattle.search_moves.proofs.SavedLemmas.{all-kept, all-read-kept}
use Rattle.search_moves.proofs.WorldLemmas.{growth-keeps}
use Rattle.search_moves.proofs.laws.law_alternatives.Goals as goal

pub returns-clause-kept : goal.returns-clause-kept
returns-clause-kept c = λ p w w' saved h k. (all-read-kept p w w' saved h k, all-kept w w' saved h k)

pub returns-clause-growth : goal.returns-clause-growth
returns-clause-growth c = growth-keeps
