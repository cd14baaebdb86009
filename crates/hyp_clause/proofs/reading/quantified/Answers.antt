use Rattle.std.proofs.Common.{[]}
use Rattle.level_terms.proofs.GrowthLemmas.{grows-refl}
use Rattle.hyp_clause.proofs.reading.quantified.Goals as goal

pub returns-in_err-level-in-len1-clause-grows : goal.returns-in_err-level-in-len1-clause-grows
returns-in_err-level-in-len1-clause-grows c = grows-refl c.args.heap.now []

pub returns-in_err-pis-in-len1-clause-grows : goal.returns-in_err-pis-in-len1-clause-grows
returns-in_err-pis-in-len1-clause-grows c = grows-refl c.args.heap.now []

pub returns-in_default-clause-grows : goal.returns-in_default-clause-grows
returns-in_default-clause-grows c = grows-refl c.args.heap.now []
