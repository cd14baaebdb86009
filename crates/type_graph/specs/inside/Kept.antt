-- How a graph is kept between two calls.
use Rattle.std.specs.Prelude.{◌≡◌, [], length}
use Rattle.type_graph.specs.declared.graph.Graph.TheInside.{Inside}
use Rattle.type_graph.specs.Graph.{IsGraph}
use Rattle.type_graph.specs.inside.Reach.{IsClear}

pub record IsKept (g : Inside) : Type 0 where
  pub graph : IsGraph g.nodes.items
  pub marks : length g.seen.items ≡ length g.nodes.items
  pub clear : IsClear g.seen.items
  pub empty : g.queue.items ≡ []
