use Rattle.std.proofs.Common.{ℕ, map, take}
use Rattle.type_graph.specs.Graph.{node_at}
use Rattle.type_texts.specs.OpenTypes.{OpenType}
use Rattle.type_texts.specs.inside.Readings.{IsReading}
use Rattle.type_texts.specs.inside.Lines.{HasLines}
use Rattle.type_texts.proofs.lines.lines_of.Given as goal

abbrev pub invariant-loop-constant : goal.invariant-loop-constant
invariant-loop-constant l = (u : ℕ → OpenType) → IsReading (node_at l.graph) u
    → HasLines l.symbols (map u l.nodes) (take l.constant-index l.constants) l.variables.keys (map (λ line. line.items) l.lines.items)
