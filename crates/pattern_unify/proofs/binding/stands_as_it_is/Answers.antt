use Rattle.std.proofs.Common.{arith}
use Rattle.level_terms.proofs.ValidLemmas.{valid_deeper}
use Rattle.level_terms.proofs.ReadLemmas.{valid-below}
use Rattle.pattern_unify.proofs.binding.stands_as_it_is.Goals as goal
use Rattle.std.proofs.Common.{length}

pub returns-then-ns-depth-clause-valid : goal.returns-then-ns-depth-clause-valid
returns-then-ns-depth-clause-valid c e = let high = c.if-ns-depth.true in valid_deeper c.args.heap.now c.args.t.index c.args.depth (length c.args.ns.now) c.requires (omega (arith, high))

pub is_valid_at-requires : goal.is_valid_at-requires
is_valid_at-requires c = record { there = valid-below c.args.heap.now c.args.t.index c.args.depth c.requires }
