use Rattle.std.proofs.Common.{[]}
use Rattle.level_terms.proofs.GrowthLemmas.{grows-refl}
use Rattle.level_terms.proofs.ReadLemmas.{valid-below}
use Rattle.pattern_unify.proofs.renewing.renewed_side.Goals as goal

pub is_open_node-requires : goal.is_open_node-requires
is_open_node-requires c = valid-below c.args.heap.now c.args.side.index c.args.depth c.requires

pub returns-then-is_open_node-clause-grows : goal.returns-then-is_open_node-clause-grows
returns-then-is_open_node-clause-grows c = grows-refl c.args.heap.now []

pub is_small-requires : goal.is_small-requires
is_small-requires c = valid-below c.args.heap.now c.args.side.index c.args.depth c.requires

pub returns-in_err-is_small-clause-grows : goal.returns-in_err-is_small-clause-grows
returns-in_err-is_small-clause-grows c = grows-refl c.args.heap.now []
