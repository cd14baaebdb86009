use Rattle.std.proofs.Common.{ℕ, ◌≡◌, ◌<◌, length}
use Rattle.type_graph.specs.Graph.{node_at}
use Rattle.type_texts.specs.OpenTypes.{OpenType}
use Rattle.type_texts.specs.inside.Readings.{IsReading}
use Rattle.type_texts.proofs.ends.end_of.Given as goal

abbrev pub invariant-loop-next : goal.invariant-loop-next
invariant-loop-next l = record {
  within : l.at < length l.graph;
  same : (u : ℕ → OpenType) → IsReading (node_at l.graph) u → u l.at ≡ u l.start;
}

abbrev pub decreases-loop-next : goal.decreases-loop-next
decreases-loop-next l = l.at
