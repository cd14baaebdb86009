use Rattle.std.proofs.Common.{◌≡◌, length, map, []}
use Rattle.level_terms.specs.Sound.{AllOlder}
use Rattle.level_terms.specs.Growth.{Grows}
use Rattle.beta_fragment.specs.Moves.{AreLevelsOf}
use Rattle.level_terms.specs.Values.{value_of}
use Rattle.beta_fragment.proofs.renaming.moved_levels.Given as goal

abbrev pub invariant-loop-level : goal.invariant-loop-level
invariant-loop-level l = record {
  levels : AreLevelsOf l.names l.base l.to 0 (map (value_of l.heap) l.args.items);
  count : length l.args.items ≡ l.level;
  there : AllOlder (length l.heap.nodes) l.args.items;
  variables : l.heap.depths ≡ l.fn.heap.depths;
  grows : Grows l.fn.heap l.heap [] [];
}
