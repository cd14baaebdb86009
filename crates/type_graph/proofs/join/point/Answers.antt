use Rattle.type_graph.specs.Graph.{node_at}
use Rattle.type_graph.specs.inside.Reach.{IsApart}
use Rattle.type_graph.proofs.Solutions.{graph-pointed}
use Rattle.type_graph.proofs.Outcomes.{on-false}
use Rattle.type_graph.proofs.join.point.Goals as goal

pub returns-clause-graph : goal.returns-clause-graph
returns-clause-graph c =
    graph-pointed c.args.nodes.now c.args.low c.args.high c.requires.graph c.requires.low c.requires.high
    (on-false c.in_ok-part.part (IsApart (node_at c.args.nodes.now) c.args.low c.args.high) c.if-part.false c.in_ok-part.ensures.apart)
