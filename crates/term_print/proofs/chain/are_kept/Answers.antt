use Rattle.std.proofs.Common.{[]}
use Rattle.level_terms.proofs.GrowthLemmas.{grows-refl}
use Rattle.level_terms.proofs.ReadLemmas.{valid-below}
use Rattle.term_print.proofs.ChainLemmas.{below-made, body-kept}
use Rattle.term_print.proofs.WrittenLemmas.{if-ok_two}
use Rattle.term_print.proofs.chain.are_kept.Goals as goal

pub nth_below-requires : goal.nth_below-requires
nth_below-requires c = valid-below c.args.heap.now c.args.lam.index c.args.depth c.requires

pub stays-requires-clause-valid : goal.stays-requires-clause-valid
stays-requires-clause-valid c = λ made b e. below-made c.args.heap.now c.is_sound.ensures c.args.count c.args.lam.index c.in-Some.node.index c.in-Some.ensures.below c.args.depth c.requires made b e

pub returns-in-Some-clause-kept : goal.returns-in-Some-clause-kept
returns-in-Some-clause-kept c = if-ok_two c.stays.result
    (λ r f g w. body-kept c.args.heap.now c.is_sound.ensures c.args.lam c.in-Some.node c.args.count c.in-Some.ensures.below (f w) (g w))
    c.stays.ensures.node c.stays.ensures.stays

pub returns-in-None-clause-grows : goal.returns-in-None-clause-grows
returns-in-None-clause-grows c = grows-refl c.args.heap.now []
