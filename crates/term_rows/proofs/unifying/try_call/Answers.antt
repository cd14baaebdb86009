use Rattle.term_rows.proofs.RowLemmas.{stays-valid, grows-before}
use Rattle.term_rows.proofs.unifying.try_call.Goals as goal

pub texts_of-requires-clause-left : goal.texts_of-requires-clause-left
texts_of-requires-clause-left c = stays-valid c.args.heap.now c.answered.new.heap c.args.trail.now.entries c.answered.new.trail.entries c.args.problem.left.index c.args.problem.depth c.is_sound.ensures c.in_ok-word.ensures.grows c.requires.left

pub texts_of-requires-clause-right : goal.texts_of-requires-clause-right
texts_of-requires-clause-right c = stays-valid c.args.heap.now c.answered.new.heap c.args.trail.now.entries c.answered.new.trail.entries c.args.problem.right.index c.args.problem.depth c.is_sound.ensures c.in_ok-word.ensures.grows c.requires.right

pub returns-in_err-texts : goal.returns-in_err-texts
returns-in_err-texts c = record { grows = grows-before c.args.heap.now c.answered.new.heap c.texts_of.new.heap c.args.trail.now.entries c.answered.new.trail.entries c.in_ok-word.ensures.grows c.texts_of.ensures.grows }

pub returns-in_err-expect : goal.returns-in_err-expect
returns-in_err-expect c = record { grows = grows-before c.args.heap.now c.answered.new.heap c.texts_of.new.heap c.args.trail.now.entries c.answered.new.trail.entries c.in_ok-word.ensures.grows c.texts_of.ensures.grows }

pub returns-in_ok-expect : goal.returns-in_ok-expect
returns-in_ok-expect c = record { grows = grows-before c.args.heap.now c.answered.new.heap c.texts_of.new.heap c.args.trail.now.entries c.answered.new.trail.entries c.in_ok-word.ensures.grows c.texts_of.ensures.grows }
