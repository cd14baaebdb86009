use Rattle.term_rows.proofs.RowLemmas.{stays-valid, grows-before}
use Rattle.term_rows.proofs.calling.try_call.Goals as goal

pub text_of-requires : goal.text_of-requires
text_of-requires c = stays-valid c.args.heap.now c.answered.new.heap c.args.trail.now.entries c.answered.new.trail.entries c.args.goal.index c.args.depth c.is_sound.ensures c.in_ok-word.ensures.grows c.requires

pub returns-in_err-text : goal.returns-in_err-text
returns-in_err-text c = record { grows = grows-before c.args.heap.now c.answered.new.heap c.text_of.new.heap c.args.trail.now.entries c.answered.new.trail.entries c.in_ok-word.ensures.grows c.text_of.ensures.grows }

pub returns : goal.returns
returns c = record { grows = grows-before c.args.heap.now c.answered.new.heap c.text_of.new.heap c.args.trail.now.entries c.answered.new.trail.entries c.in_ok-word.ensures.grows c.text_of.ensures.grows }
