use Rattle.level_terms.proofs.NodeLemmas.{nodes_read}
use Rattle.level_terms.proofs.LocalLemmas.{readings_local}
use Rattle.level_terms.proofs.laws.law_nodes.Goals as goal

pub returns-clause-reads : goal.returns-clause-reads
returns-clause-reads c = λ g t n env s p e. nodes_read g t n env s p e

pub returns-clause-local : goal.returns-clause-local
returns-clause-local c = readings_local
