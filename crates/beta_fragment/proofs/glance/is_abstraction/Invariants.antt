use Rattle.std.proofs.Common.{◌<◌, ℕ, length}
use Rattle.level_terms.specs.Valid.{IsValid}
use Rattle.beta_fragment.specs.Firm.{IsAbstractionNode}
use Rattle.beta_fragment.proofs.glance.is_abstraction.Given as goal

abbrev pub invariant-loop-depth : goal.invariant-loop-depth
invariant-loop-depth l = record {
  there : l.node.index < length l.heap.nodes;
  valid : (s : ℕ) → IsValid l.heap l.fn.t.index s → (d : ℕ) × IsValid l.heap l.node.index d;
  leads : IsAbstractionNode l.heap l.node.index → IsAbstractionNode l.heap l.fn.t.index;
}

abbrev pub decreases-loop-depth : goal.decreases-loop-depth
decreases-loop-depth l = l.node.index
