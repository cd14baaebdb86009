use Rattle.std.proofs.Common.{[]}
use Rattle.level_terms.proofs.GrowthLemmas.{grows-refl, grows-trans}
use Rattle.level_terms.proofs.ReadLemmas.{valid-below}
use Rattle.level_terms.proofs.ValidLemmas.{growth_keeps_valid}
use Rattle.pattern_unify.proofs.EquationLemmas.{equation-renewed}
use Rattle.pattern_unify.proofs.renewing.renewed.Goals as goal

pub returns-then-arity-ne0-clause-grows : goal.returns-then-arity-ne0-clause-grows
returns-then-arity-ne0-clause-grows c = grows-refl c.args.heap.now []

pub renewed_side-requires-2 : goal.renewed_side-requires-2
renewed_side-requires-2 c = growth_keeps_valid c.args.heap.now c.renewed_side.new.heap [] [] c.args.e.right.index c.args.e.depth c.is_sound.ensures c.renewed_side.ensures.grows (valid-below c.args.heap.now c.args.e.right.index c.args.e.depth c.requires.1) c.requires.1

pub returns-in_err-right-clause-grows : goal.returns-in_err-right-clause-grows
returns-in_err-right-clause-grows c = grows-trans c.args.heap.now c.renewed_side.new.heap c.renewed_side-2.new.heap [] [] [] c.renewed_side.ensures.grows c.renewed_side-2.ensures.grows

pub returns-clause-same : goal.returns-clause-same
returns-clause-same c =
    equation-renewed c.args.heap.now c.renewed_side.new.heap c.renewed_side-2.new.heap c.args.e (record { left = c.in_ok-left.left; right = c.in_ok-right.right; depth = c.args.e.depth })
    c.is_sound.ensures c.is_sound-2.ensures c.renewed_side.ensures.grows c.renewed_side-2.ensures.grows c.requires c.in_ok-left.ensures.reads c.in_ok-left.ensures.valid c.in_ok-right.ensures.reads c.in_ok-right.ensures.valid

pub returns-clause-grows : goal.returns-clause-grows
returns-clause-grows c = grows-trans c.args.heap.now c.renewed_side.new.heap c.renewed_side-2.new.heap [] [] [] c.renewed_side.ensures.grows c.renewed_side-2.ensures.grows
