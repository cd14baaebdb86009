use Rattle.std.proofs.Common.{◌≡◌, []}
use Rattle.level_terms.specs.Growth.{Grows}
use Rattle.beta_fragment.specs.inside.Cells.{terms_of, term_at}
use Rattle.beta_fragment.specs.inside.Quoting.{IsQuoting, set_for, item, tasks_size}
use Rattle.beta_fragment.proofs.quoting.quoted_under.Given as goal

abbrev pub invariant-loop-task : goal.invariant-loop-task
invariant-loop-task l = record {
  quoting : IsQuoting (set_for l.fn.heap (terms_of l.cells) l.depth l.put) (item l.under (term_at (terms_of l.cells) l.t)) l.heap l.work.items l.done.items;
  variables : l.heap.depths ≡ l.fn.heap.depths;
  grows : Grows l.fn.heap l.heap [] [];
}

abbrev pub decreases-loop-task : goal.decreases-loop-task
decreases-loop-task l = tasks_size (terms_of l.cells) l.work.items
