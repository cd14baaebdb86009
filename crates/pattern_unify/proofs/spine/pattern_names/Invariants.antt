use Rattle.std.proofs.Common.{◌≡◌, ◌≤◌, length, map, reverse, drop, [], Some}
use Rattle.level_terms.specs.Growth.{Grows}
use Rattle.ref_terms.specs.unification.Pattern.{pattern_of, of_name}
use Rattle.beta_fragment.specs.Names.{AllBelow}
use Rattle.beta_fragment.specs.HeadForm.{all_read}
use Rattle.pattern_unify.proofs.spine.pattern_names.Given as goal

abbrev pub invariant-loop-i : goal.invariant-loop-i
invariant-loop-i l = record {
  within : l.i ≤ length l.args;
  pattern : pattern_of (all_read l.fn.heap (drop l.i l.args)) ≡ Some (map of_name (reverse l.ns.items));
  below : AllBelow l.ns.items l.depth;
  variables : l.heap.depths ≡ l.fn.heap.depths;
  grows : Grows l.fn.heap l.heap [] [];
}

abbrev pub decreases-loop-i : goal.decreases-loop-i
decreases-loop-i l = l.i
