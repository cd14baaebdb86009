use Rattle.std.proofs.Common.{◌≡◌, length, [], reverse}
use Rattle.level_terms.specs.Sound.{AllOlder}
use Rattle.level_terms.specs.Growth.{Grows}
use Rattle.pattern_unify.specs.inside.Filling.{IsLeading, work_size}
use Rattle.pattern_unify.proofs.filling.filled.Given as goal

abbrev pub invariant-loop-task : goal.invariant-loop-task
invariant-loop-task l = record {
  leads : IsLeading l.fn.heap l.fn.t.index (record { heap = l.heap; work = l.work.items; done = l.done.items });
  there : AllOlder (length l.heap.nodes) l.done.items;
  variables : l.heap.depths ≡ l.fn.heap.depths;
  grows : Grows l.fn.heap l.heap [] [];
}

abbrev pub decreases-loop-task : goal.decreases-loop-task
decreases-loop-task l = work_size l.fn.heap (reverse l.work.items)
