use Rattle.search_moves.proofs.ReadingLemmas.{unified-reads, grown-reads}
use Rattle.search_moves.proofs.laws.law_branch.Goals as goal

pub returns-clause-unified : goal.returns-clause-unified
returns-clause-unified c = unified-reads

pub returns-clause-grown : goal.returns-clause-grown
returns-clause-grown c = grown-reads
