use Rattle.std.proofs.Common.{◌≡◌}
use Rattle.term_rows.proofs.builder.make_variables.Given as goal

abbrev pub invariant-loop-depth : goal.invariant-loop-depth
invariant-loop-depth l = l.heap.assigned ≡ l.fn.heap.assigned
