use Rattle.std.proofs.Common.{[], map, length}
use Rattle.level_terms.specs.Growth.{Grows}
use Rattle.suspend.specs.Store.{stored}
use Rattle.search_moves.specs.Reading.{constraint_in}
use Rattle.term_print.specs.Written.{Prints}
use Rattle.term_print.specs.Pieces.{page}
use Rattle.goal_run.specs.inside.Suspended.{suspended_lines, AllShowable}
use Rattle.goal_run.proofs.suspended.write_store.Given as goal

-- the lines of the goals that are left are what is still to be written
abbrev pub invariant-loop-suspended : goal.invariant-loop-suspended
invariant-loop-suspended l = record {
  prints : Prints (page l.fn.text l.fn.namer) (suspended_lines l.symbols (map (constraint_in l.fn.heap) (stored l.store))) (page l.text l.namer) (suspended_lines l.symbols (map (constraint_in l.fn.heap) l.rest));
  grows : Grows l.fn.heap l.heap [] [];
  showable : AllShowable l.fn.heap l.rest;
}

abbrev pub decreases-loop-suspended : goal.decreases-loop-suspended
decreases-loop-suspended l = length l.rest
