use Rattle.std.proofs.Common.{◌≡◌, length, map, []}
use Rattle.level_terms.specs.Sound.{AllOlder}
use Rattle.level_terms.specs.Reading.{read}
use Rattle.level_terms.specs.Growth.{Grows}
use Rattle.beta_fragment.specs.Moves.{ArePutLevels}
use Rattle.level_terms.specs.Values.{value_of}
use Rattle.beta_fragment.proofs.putting.put_levels.Given as goal

abbrev pub invariant-loop-i : goal.invariant-loop-i
invariant-loop-i l = record {
  levels : ArePutLevels (read l.fn.heap l.put.index) l.level 0 (map (value_of l.heap) l.args.items);
  count : length l.args.items ≡ l.i;
  there : AllOlder (length l.heap.nodes) l.args.items;
  variables : l.heap.depths ≡ l.fn.heap.depths;
  grows : Grows l.fn.heap l.heap [] [];
}
