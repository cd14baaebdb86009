use Rattle.std.proofs.Common.{[]}
use Rattle.level_terms.proofs.GrowthLemmas.{grows-refl}
use Rattle.level_terms.proofs.ReadLemmas.{valid-below}
use Rattle.pattern_unify.proofs.reaching.node_without.Goals as goal

pub is_reached-requires : goal.is_reached-requires
is_reached-requires c = valid-below c.args.heap.now c.args.t.index c.args.depth c.requires.valid

pub returns-in_err-is_reached-clause-grows : goal.returns-in_err-is_reached-clause-grows
returns-in_err-is_reached-clause-grows c = grows-refl c.args.heap.now []

pub returns-clause-unreached : goal.returns-clause-unreached
returns-clause-unreached c = c.in_ok-is_reached.ensures c.if-branch.false

pub returns-clause-grows : goal.returns-clause-grows
returns-clause-grows c = grows-refl c.args.heap.now []
