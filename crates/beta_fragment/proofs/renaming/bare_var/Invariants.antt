use Rattle.std.proofs.Common.{◌≡◌, ◌<◌, length, []}
use Rattle.level_terms.specs.Graph.{node_at}
use Rattle.level_terms.specs.Sound.{IsHead}
use Rattle.level_terms.specs.Growth.{Grows}
use Rattle.level_terms.specs.Values.{IsVarOf, value_of}
use Rattle.beta_fragment.proofs.renaming.bare_var.Given as goal

abbrev pub invariant-loop-depth : goal.invariant-loop-depth
invariant-loop-depth l = record {
  open_at : IsVarOf l.fn.v.index l.depth (value_of l.heap l.node);
  head : IsHead (node_at l.heap.nodes l.node.index);
  there : l.node.index < length l.heap.nodes;
  variables : l.heap.depths ≡ l.fn.heap.depths;
  grows : Grows l.fn.heap l.heap [] [];
}

abbrev pub decreases-loop-depth : goal.decreases-loop-depth
decreases-loop-depth l = l.depth
