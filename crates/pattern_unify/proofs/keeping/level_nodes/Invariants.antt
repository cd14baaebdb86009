use Rattle.std.proofs.Common.{◌≡◌, [], take}
use Rattle.level_terms.specs.Growth.{Grows}
use Rattle.pattern_unify.specs.inside.Keeping.{AreLevels}
use Rattle.pattern_unify.proofs.keeping.level_nodes.Given as goal

abbrev pub invariant-loop-level : goal.invariant-loop-level
invariant-loop-level l = record {
  levels : AreLevels l.heap l.nodes.items (take l.level-index l.levels);
  variables : l.heap.depths ≡ l.fn.heap.depths;
  grows : Grows l.fn.heap l.heap [] [];
}
