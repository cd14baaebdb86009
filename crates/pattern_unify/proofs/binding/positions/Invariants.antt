use Rattle.std.proofs.Common.{◌≡◌, ℕ, ◌<◌, length, slice_index}
use Rattle.pattern_unify.proofs.binding.positions.Given as goal

abbrev pub invariant-loop-i : goal.invariant-loop-i
invariant-loop-i l = record {
  count : length l.table.items ≡ l.depth;
  positions : (j : ℕ) → j < l.i → slice_index l.table.items (slice_index l.ns j) ≡ j;
  within : (k : ℕ) → k < length l.table.items → slice_index l.table.items k < length l.ns;
}
