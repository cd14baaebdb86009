use Rattle.std.proofs.Common.{◌≡◌, [], take}
use Rattle.level_terms.specs.Growth.{Grows}
use Rattle.eigen_align.specs.Aligned.{AreAlignedBy}
use Rattle.eigen_align.proofs.lifting.all_aligned.Given as goal

abbrev pub invariant-loop-i : goal.invariant-loop-i
invariant-loop-i l = record {
  aligned : AreAlignedBy l.fn.heap l.heap l.names.depth (take l.i l.heads) (take l.i l.names.maps.items) l.all.items;
  variables : l.heap.depths ≡ l.fn.heap.depths;
  grows : Grows l.fn.heap l.heap [] [];
}
