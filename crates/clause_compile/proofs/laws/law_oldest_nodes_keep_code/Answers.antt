use Rattle.clause_compile.proofs.CodeLemmas.{code-oldest}
use Rattle.clause_compile.proofs.laws.law_oldest_nodes_keep_code.Goals as goal

pub returns : goal.returns
returns c = code-oldest
