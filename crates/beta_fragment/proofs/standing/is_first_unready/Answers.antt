use Rattle.std.proofs.Common.{◌<◌, get_or, length, arith}
use Rattle.level_terms.proofs.ReadLemmas.{valid-below}
use Rattle.beta_fragment.proofs.StandLemmas.{valid-nth}
use Rattle.beta_fragment.proofs.standing.is_first_unready.Goals as goal

pub looked_at-requires : goal.looked_at-requires
looked_at-requires c =
    let some : 0 < length c.args.ts.now = (let e = c.if-is_empty.ensures in grind (arith, e, c.if-is_empty.false)) in
    let here = valid-nth c.args.heap.now c.args.depth c.args.ts.now 0 (record { index = 0 }) some c.requires in
    valid-below c.args.heap.now (get_or c.args.ts.now 0 (record { index = 0 })).index c.args.depth here
