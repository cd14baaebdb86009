use Rattle.std.proofs.Common.{◌≡◌, []}
use Rattle.level_terms.specs.Growth.{Grows}
use Rattle.level_terms.specs.Valid.{IsValid}
use Rattle.term_print.proofs.chain.kept_below.Given as goal

abbrev pub invariant-loop-count : goal.invariant-loop-count
invariant-loop-count l = record {
  valid : IsValid l.heap l.lam.index l.depth;
  variables : l.heap.depths ≡ l.fn.heap.depths;
  grows : Grows l.fn.heap l.heap [] [];
}

abbrev pub decreases-loop-count : goal.decreases-loop-count
decreases-loop-count l = l.count
