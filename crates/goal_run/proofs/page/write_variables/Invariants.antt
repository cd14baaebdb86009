use Rattle.std.proofs.Common.{length, ◌-◌, [], drop}
use Rattle.level_terms.specs.Growth.{Grows}
use Rattle.beta_fragment.specs.HeadForm.{all_read}
use Rattle.term_print.specs.Written.{Prints}
use Rattle.term_print.specs.Pieces.{page}
use Rattle.goal_run.specs.inside.Lines.{lines_of}
use Rattle.goal_run.proofs.page.write_variables.Given as goal

abbrev pub invariant-loop-place : goal.invariant-loop-place
invariant-loop-place l = record {
  prints : Prints (page l.fn.text l.fn.namer) (lines_of l.symbols l.variables (all_read l.fn.heap l.query)) (page l.text l.namer) (lines_of l.symbols (drop l.place l.variables) (all_read l.fn.heap (drop l.place l.query)));
  grows : Grows l.fn.heap l.heap [] [];
}

abbrev pub decreases-loop-place : goal.decreases-loop-place
decreases-loop-place l = length l.variables - l.place
