use Rattle.clause_key.proofs.PassLemmas.{passing-resolves, passing-strips}
use Rattle.clause_key.proofs.laws.law_passing_over.Goals as goal

pub returns-clause-resolves : goal.returns-clause-resolves
returns-clause-resolves c = passing-resolves

pub returns-clause-strips : goal.returns-clause-strips
returns-clause-strips c = passing-strips
