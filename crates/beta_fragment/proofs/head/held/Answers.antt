use Rattle.std.proofs.Common.{length, arith}
use Rattle.level_terms.proofs.ReadLemmas.{valid-below}
use Rattle.beta_fragment.proofs.HeadLemmas.{lam-within}
use Rattle.beta_fragment.proofs.head.held.Goals as goal

pub is_abstraction-requires : goal.is_abstraction-requires
is_abstraction-requires c = valid-below c.args.heap.now c.args.t.index (length c.args.levels.now) c.requires.valid

pub stuck-requires-clause-certain : goal.stuck-requires-clause-certain
stuck-requires-clause-certain c = c.is_abstraction.ensures c.if-is_abstraction.true (length c.args.levels.now) c.requires.valid

pub bare_var_of-requires : goal.bare_var_of-requires
bare_var_of-requires c = valid-below c.args.heap.now c.args.t.index (length c.args.levels.now) c.requires.valid

pub flex-requires-clause-count : goal.flex-requires-clause-count
flex-requires-clause-count c =
    let within = lam-within c.args.heap.now c.args.t.index c.args.made c.args.body (length c.args.levels.now) c.is_sound.ensures c.requires.here c.requires.valid in
    omega (arith, within)

pub settled-requires-clause-head : goal.settled-requires-clause-head
settled-requires-clause-head c = c.requires.valid

pub settled-requires-clause-below : goal.settled-requires-clause-below
settled-requires-clause-below c = c.requires.moves.below
