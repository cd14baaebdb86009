use Rattle.std.proofs.Common.{[]}
use Rattle.level_terms.proofs.GrowthLemmas.{grows-trans}
use Rattle.term_rows.proofs.RowLemmas.{stays-valid}
use Rattle.term_rows.proofs.unifying.texts_of.Goals as goal

pub print_term-requires-2 : goal.print_term-requires-2
print_term-requires-2 c = stays-valid c.args.heap.now c.print_term.new.heap [] [] c.args.problem.right.index c.args.problem.depth c.is_sound.ensures c.print_term.ensures.grows c.requires.right

pub returns-in_err-print_term-2 : goal.returns-in_err-print_term-2
returns-in_err-print_term-2 c = record { grows = grows-trans c.args.heap.now c.print_term.new.heap c.print_term-2.new.heap [] [] [] c.print_term.ensures.grows c.print_term-2.ensures.grows }

pub returns : goal.returns
returns c = record { grows = grows-trans c.args.heap.now c.print_term.new.heap c.print_term-2.new.heap [] [] [] c.print_term.ensures.grows c.print_term-2.ensures.grows }
