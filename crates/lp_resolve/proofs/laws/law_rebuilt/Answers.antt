use Rattle.lp_resolve.proofs.Rebuilt.{term_of-rebuilt, term_of-built}
use Rattle.lp_resolve.proofs.laws.law_rebuilt.Goals as goal

pub returns-clause-rebuilt : goal.returns-clause-rebuilt
returns-clause-rebuilt c = term_of-rebuilt

pub returns-clause-built : goal.returns-clause-built
returns-clause-built c = term_of-built
