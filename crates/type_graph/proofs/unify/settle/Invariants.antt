use Rattle.std.proofs.Common.{◌≡◌, ◌+◌, ◌*◌, [], length, All}
use Rattle.type_graph.specs.Graph.{IsGraph}
use Rattle.type_graph.specs.inside.Reach.{IsClear}
use Rattle.type_graph.specs.Solved.{roots, IsPairWithin}
use Rattle.type_graph.proofs.Settling.{Settles}
use Rattle.type_graph.proofs.unify.settle.Given as goal

abbrev pub invariant-loop-pair : goal.invariant-loop-pair
invariant-loop-pair l = record {
  graph : IsGraph l.nodes;
  clear : IsClear l.seen;
  empty : l.queue.items ≡ [];
  within : All (IsPairWithin (length l.nodes)) l.pairs.items;
  settles : Settles l.fn.nodes l.fn.pairs.items l.nodes l.pairs.items;
}

abbrev pub decreases-loop-pair : goal.decreases-loop-pair
decreases-loop-pair l = 2 * roots l.nodes + length l.pairs.items
