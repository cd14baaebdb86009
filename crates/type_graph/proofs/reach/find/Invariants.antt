use Rattle.std.proofs.Common.{◌+◌, ◌-◌, length}
use Rattle.type_graph.specs.Graph.{node_at}
use Rattle.type_graph.specs.inside.Reach.{unmarked}
use Rattle.type_graph.proofs.Searches.{Searched}
use Rattle.type_graph.proofs.reach.find.Given as goal

abbrev pub invariant-loop-index : goal.invariant-loop-index
invariant-loop-index l = Searched (node_at l.nodes) (length l.nodes) l.first l.second l.seen l.queue.items l.index

abbrev pub decreases-loop-index : goal.decreases-loop-index
decreases-loop-index l = unmarked l.seen + (length l.queue.items - l.index)
