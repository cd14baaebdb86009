use Rattle.clause_key.proofs.ClashLemmas.{disagreeing-clashes, disagreeing-stripped}
use Rattle.clause_key.proofs.laws.law_disagreeing_clause_clashes.Goals as goal

pub returns-clause-clashes : goal.returns-clause-clashes
returns-clause-clashes c = disagreeing-clashes

pub returns-clause-stripped : goal.returns-clause-stripped
returns-clause-stripped c = disagreeing-stripped
