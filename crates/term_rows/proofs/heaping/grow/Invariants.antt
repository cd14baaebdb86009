use Rattle.std.proofs.Common.{[]}
use Rattle.level_terms.specs.Growth.{Grows}
use Rattle.term_rows.proofs.heaping.grow.Given as goal

abbrev pub invariant-loop-n : goal.invariant-loop-n
invariant-loop-n l = Grows l.fn.heap l.heap [] []
