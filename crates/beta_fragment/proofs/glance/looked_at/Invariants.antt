use Rattle.std.proofs.Common.{◌≡◌, ℕ, ◌<◌, ◌≤◌, length}
use Rattle.level_terms.specs.Reading.{read}
use Rattle.level_terms.specs.Valid.{IsValid}
use Rattle.level_terms.specs.Reached.{tree, tree_size}
use Rattle.beta_fragment.specs.Names.{names}
use Rattle.beta_fragment.proofs.glance.looked_at.Given as goal

abbrev pub invariant-loop-v : goal.invariant-loop-v
invariant-loop-v l = record {
  there : l.node.index < length l.heap.nodes;
  valid : (s : ℕ) → IsValid l.heap l.fn.t.index s → (d : ℕ) × (d ≤ s) × IsValid l.heap l.node.index d;
  same : read l.heap l.fn.t.index names ≡ read l.heap l.node.index names;
}

abbrev pub decreases-loop-v : goal.decreases-loop-v
decreases-loop-v l = tree_size (tree l.heap l.node.index)
