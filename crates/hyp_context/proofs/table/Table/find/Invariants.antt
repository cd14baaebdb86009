use Rattle.std.proofs.Common.{◌≡◌}
use Rattle.hyp_context.specs.inside.Found.{found_in}
use Rattle.hyp_context.proofs.table.Table.find.Given as goal

abbrev pub invariant-loop-table : goal.invariant-loop-table
invariant-loop-table l = found_in l.table l.left ≡ found_in l.fn.self l.fn.number

abbrev pub decreases-loop-table : goal.decreases-loop-table
decreases-loop-table l = l.left
