use Rattle.std.proofs.Common.{◌≡◌, ℕ, [], drop, length, replicate, slice_index, Some, None}
use Rattle.level_terms.specs.Growth.{Grows}
use Rattle.eigen_align.specs.Counts.{depths_of, HaveBelow, AreBelow}
use Rattle.eigen_align.specs.Sequents.{sequents_read}
use Rattle.eigen_align.specs.inside.Identified.{all_aligned_at}
use Rattle.eigen_align.proofs.joint.own_names.Given as goal

abbrev pub invariant-loop-k : goal.invariant-loop-k
invariant-loop-k l = record {
  aligned : all_aligned_at (sequents_read l.fn.heap l.heads) l.maps l.i (drop l.k l.pairs) (Some l.names.items) ≡
      all_aligned_at (sequents_read l.fn.heap l.heads) l.maps l.i l.pairs (Some (replicate (slice_index (depths_of l.heads) l.i) None));
  count : length l.names.items ≡ slice_index (depths_of l.heads) l.i;
  below : (d : ℕ) → HaveBelow d l.maps → AreBelow d l.names.items;
  variables : l.heap.depths ≡ l.fn.heap.depths;
  grows : Grows l.fn.heap l.heap [] [];
}
