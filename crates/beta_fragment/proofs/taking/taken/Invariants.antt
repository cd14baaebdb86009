use Rattle.std.proofs.Common.{length, map, reverse}
use Rattle.beta_fragment.specs.inside.Cells.{terms_of, term_at, Gains}
use Rattle.beta_fragment.specs.inside.Taking.{Comes, replaced, outside, AllThere, work_size}
use Rattle.beta_fragment.proofs.taking.taken.Given as goal

abbrev pub invariant-loop-task : goal.invariant-loop-task
invariant-loop-task l = record {
  comes : Comes (terms_of l.fn.cells) (reverse l.work.items) (map (term_at (terms_of l.cells)) (reverse l.done.items)) (replaced (outside (terms_of l.fn.cells) l.fn.put) (term_at (terms_of l.fn.cells) l.t));
  there : AllThere (length (terms_of l.cells)) (reverse l.done.items);
  gains : Gains (terms_of l.fn.cells) (terms_of l.cells);
}

abbrev pub decreases-loop-task : goal.decreases-loop-task
decreases-loop-task l = work_size (terms_of l.fn.cells) (reverse l.work.items)
