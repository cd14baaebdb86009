use Rattle.std.proofs.Common.{◌<◌, length}
use Rattle.level_terms.specs.Reached.{tree, tree_size}
use Rattle.beta_fragment.specs.Firm.{IsFirmNode}
use Rattle.beta_fragment.proofs.glance.is_firm.Given as goal

abbrev pub invariant-loop-body : goal.invariant-loop-body
invariant-loop-body l = record {
  there : l.node.index < length l.heap.nodes;
  leads : IsFirmNode l.heap l.node.index → IsFirmNode l.heap l.fn.t.index;
}

abbrev pub decreases-loop-body : goal.decreases-loop-body
decreases-loop-body l = tree_size (tree l.heap l.node.index)
