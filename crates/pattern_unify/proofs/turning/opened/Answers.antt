use Rattle.std.proofs.Common.{[]}
use Rattle.level_terms.proofs.GrowthLemmas.{grows-refl, grows-trans}
use Rattle.level_terms.proofs.ValidLemmas.{growth_keeps_valid}
use Rattle.level_terms.proofs.ReadLemmas.{valid-below}
use Rattle.pattern_unify.proofs.TurnLemmas.{opened-turn}
use Rattle.pattern_unify.proofs.turning.opened.Goals as goal

pub returns-in_err-depth-clause-grows : goal.returns-in_err-depth-clause-grows
returns-in_err-depth-clause-grows c = grows-refl c.args.heap.now []

pub applied-requires-2 : goal.applied-requires-2
applied-requires-2 c = record {
  valid = growth_keeps_valid c.args.heap.now c.applied.new.heap [] [] c.args.e.right.index c.args.e.depth c.is_sound.ensures c.applied.ensures.grows (valid-below c.args.heap.now c.args.e.right.index c.args.e.depth c.requires.equation.1) c.requires.equation.1;
}

pub returns-in_err-right-clause-grows : goal.returns-in_err-right-clause-grows
returns-in_err-right-clause-grows c = grows-trans c.args.heap.now c.applied.new.heap c.applied-2.new.heap [] [] [] c.applied.ensures.grows c.applied-2.ensures.grows

pub returns-in_err-push-clause-grows : goal.returns-in_err-push-clause-grows
returns-in_err-push-clause-grows c = grows-trans c.args.heap.now c.applied.new.heap c.applied-2.new.heap [] [] [] c.applied.ensures.grows c.applied-2.ensures.grows

pub returns-clause-grows : goal.returns-clause-grows
returns-clause-grows c = grows-trans c.args.heap.now c.applied.new.heap c.applied-2.new.heap [] [] [] c.applied.ensures.grows c.applied-2.ensures.grows

pub returns-clause-turn : goal.returns-clause-turn
returns-clause-turn c = λ m.
    opened-turn c.args.heap.now c.applied.new.heap c.applied-2.new.heap m c.args.e (record { left = c.in_ok-left.left; right = c.in_ok-right.right; depth = c.in_ok-depth.depth }) c.args.work.now.items c.push.new.self.items
    c.is_sound.ensures c.is_sound-2.ensures c.applied.ensures.grows c.applied-2.ensures.grows c.applied.ensures.variables c.applied-2.ensures.variables c.requires.equation c.requires.valid c.in_ok-depth.ensures c.in_ok-push.ensures.items
    c.in_ok-left.ensures.reads c.in_ok-left.ensures.valid c.in_ok-right.ensures.reads c.in_ok-right.ensures.valid
