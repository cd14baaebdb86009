use Rattle.std.proofs.Common.{◌≡◌, ℕ, drop, length, Some, option_and_then}
use Rattle.ref_terms.specs.search.Joint.{identified, paired}
use Rattle.beta_fragment.specs.Names.{AllBelow}
use Rattle.eigen_align.specs.Counts.{AreBelow}
use Rattle.eigen_align.proofs.identifying.identify.Given as goal

abbrev pub invariant-loop-i : goal.invariant-loop-i
invariant-loop-i l = record {
  identified : option_and_then (λ ps. identified l.map ps (Some l.names.items)) (paired (drop l.i l.left) (drop l.i l.right)) ≡ option_and_then (λ ps. identified l.map ps (Some l.fn.names.items)) (paired l.left l.right);
  count : length l.names.items ≡ length l.fn.names.items;
  below : (d : ℕ) → AllBelow l.map d → AreBelow d l.fn.names.items → AreBelow d l.names.items;
}
