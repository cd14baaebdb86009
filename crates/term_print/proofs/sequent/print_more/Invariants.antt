use Rattle.std.proofs.Common.{◌≡◌, [], drop}
use Rattle.level_terms.specs.Growth.{Grows}
use Rattle.beta_fragment.specs.HeadForm.{all_read}
use Rattle.term_print.specs.Pieces.{page}
use Rattle.term_print.specs.Sequents.{more_lines}
use Rattle.term_print.specs.Written.{Prints}
use Rattle.term_print.proofs.sequent.print_more.Given as goal

abbrev pub invariant-loop-term : goal.invariant-loop-term
invariant-loop-term l = record {
  prints : Prints (page l.fn.out l.fn.namer) (more_lines l.symbols (all_read l.fn.heap l.terms)) (page l.out l.namer) (more_lines l.symbols (all_read l.fn.heap (drop l.term-index l.terms)));
  variables : l.heap.depths ≡ l.fn.heap.depths;
  grows : Grows l.fn.heap l.heap [] [];
}
