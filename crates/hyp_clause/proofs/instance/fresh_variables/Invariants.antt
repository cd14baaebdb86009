use Rattle.std.proofs.Common.{◌≡◌, ◌++◌, length, replicate, []}
use Rattle.level_terms.specs.Growth.{Grows}
use Rattle.beta_fragment.specs.HeadForm.{all_read, AllValidAt}
use Rattle.hyp_clause.specs.Instances.{variables_from}
use Rattle.hyp_clause.proofs.instance.fresh_variables.Given as goal

abbrev pub invariant-loop-made : goal.invariant-loop-made
invariant-loop-made l = record {
  reads : all_read l.heap l.nodes.items ≡ variables_from l.depth (length l.fn.heap.depths) l.made;
  valid : AllValidAt l.heap l.nodes.items l.depth;
  count : length l.nodes.items ≡ l.made;
  depths : l.heap.depths ≡ l.fn.heap.depths ++ replicate l.made l.depth;
  grows : Grows l.fn.heap l.heap [] [];
}
