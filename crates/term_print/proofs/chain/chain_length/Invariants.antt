use Rattle.std.proofs.Common.{◌<◌, length}
use Rattle.term_print.proofs.chain.chain_length.Given as goal

abbrev pub invariant-loop-count : goal.invariant-loop-count
invariant-loop-count l = l.node.index < length l.heap.nodes
