use Rattle.std.proofs.Common.{subst, sym, ap, ◌∙◌, length}
use Rattle.type_graph.specs.Graph.{IsGraph}
use Rattle.type_graph.specs.inside.Reach.{IsClear}
use Rattle.type_graph.proofs.Pushes.{clear-none, graph-none}
use Rattle.type_graph.proofs.graph.Graph.new.Goals as goal

pub invariant_of-result : goal.invariant_of-result
invariant_of-result c = record {
  graph = subst IsGraph (sym c.new.ensures.items) graph-none;
  marks = ap length c.new-2.ensures.items ∙ sym (ap length c.new.ensures.items);
  clear = subst IsClear (sym c.new-2.ensures.items) clear-none;
  empty = c.new-3.ensures.items;
}
