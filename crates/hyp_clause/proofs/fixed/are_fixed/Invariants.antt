use Rattle.std.proofs.Common.{◌≡◌, length, drop}
use Rattle.level_terms.specs.Sound.{AllOlder}
use Rattle.hyp_clause.specs.Hyps.{all_ground_normal}
use Rattle.hyp_clause.proofs.fixed.are_fixed.Given as goal

-- the nodes that are left decide
abbrev pub invariant-loop-t : goal.invariant-loop-t
invariant-loop-t l = record {
  older : AllOlder (length l.fn.heap.nodes) (drop l.t-index l.ts);
  rest : all_ground_normal l.fn.heap (drop l.t-index l.ts) ≡ all_ground_normal l.fn.heap l.ts;
}
