use Rattle.type_terms.proofs.Instancing.{Freed}
use Rattle.type_terms.proofs.instances.free_nodes.Given as goal

abbrev pub invariant-loop-index : goal.invariant-loop-index
invariant-loop-index l = Freed l.fn.graph l._index l.nodes.items l.graph
