use Rattle.std.proofs.Common.{ℕ, ◌<◌, length}
use Rattle.level_terms.specs.Values.{IsVarOf, value_of}
use Rattle.beta_fragment.proofs.glance.bare_var_of.Given as goal

abbrev pub invariant-loop-depth : goal.invariant-loop-depth
invariant-loop-depth l = record {
  there : l.node.index < length l.heap.nodes;
  leads : (v : ℕ) → IsVarOf v l.count (value_of l.heap l.node) → IsVarOf v l.made (value_of l.heap l.fn.t);
}

abbrev pub decreases-loop-depth : goal.decreases-loop-depth
decreases-loop-depth l = l.node.index
