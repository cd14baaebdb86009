use Rattle.std.proofs.Common.{◌≡◌, [], drop, length}
use Rattle.level_terms.specs.Growth.{Grows}
use Rattle.ref_terms.specs.search.Joint.{joined, joint}
use Rattle.eigen_align.specs.Counts.{HaveCounts, HaveBelow}
use Rattle.eigen_align.specs.Sequents.{sequents_read, joint_read}
use Rattle.eigen_align.proofs.joint.joint_names.Given as goal

abbrev pub invariant-loop-i : goal.invariant-loop-i
invariant-loop-i l = record {
  joined : joined (sequents_read l.fn.heap l.heads) l.pairs l.i (drop l.i (sequents_read l.fn.heap l.heads)) (joint_read l.joint) ≡ joint l.pairs (sequents_read l.fn.heap l.heads);
  all : length l.joint.maps.items ≡ l.i;
  counts : HaveCounts l.heads l.joint.maps.items;
  below : HaveBelow l.joint.depth l.joint.maps.items;
  variables : l.heap.depths ≡ l.fn.heap.depths;
  grows : Grows l.fn.heap l.heap [] [];
}
