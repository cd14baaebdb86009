use Rattle.std.proofs.Common.{◌≡◌, ℕ, ◌<◌, ◌+◌, length, slice_index}
use Rattle.beta_fragment.proofs.instantiating.stand_ins.Given as goal

abbrev pub invariant-loop-j : goal.invariant-loop-j
invariant-loop-j l = record {
  long : length l.levels ≡ l.from + l.j;
  own : (i : ℕ) → i < l.from → slice_index l.levels i ≡ i;
  more : (i : ℕ) → i < l.j → slice_index l.levels (l.from + i) ≡ l.to + i;
}
