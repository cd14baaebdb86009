use Rattle.std.proofs.Common.{◌≡◌, [], reverse}
use Rattle.level_terms.specs.Growth.{Grows}
use Rattle.level_terms.specs.Reading.{read}
use Rattle.ref_terms.specs.search.Arithmetic.{value_of}
use Rattle.beta_fragment.specs.Names.{names}
use Rattle.builtins.specs.inside.Pending.{IsEvaluating, left_of}
use Rattle.builtins.proofs.evaluating.evaluate.Given as goal

abbrev pub invariant-loop-work : goal.invariant-loop-work
invariant-loop-work l = record {
  evaluating : IsEvaluating (value_of (read l.fn.heap l.fn.e.index names)) l.heap l.depth l.node.index (reverse l.work.items);
  variables : l.heap.depths ≡ l.fn.heap.depths;
  grows : Grows l.fn.heap l.heap [] [];
}

abbrev pub decreases-loop-work : goal.decreases-loop-work
decreases-loop-work l = left_of l.heap l.node.index (reverse l.work.items)
