use Rattle.std.proofs.Common.{◌≡◌, length, drop}
use Rattle.std.specs.List.{list_all}
use Rattle.level_terms.specs.Sound.{AllOlder}
use Rattle.level_terms.specs.GroundNormal.{ground_normal}
use Rattle.level_terms.proofs.heap.Heap.are_fixed.Given as goal

-- the nodes that are left decide
abbrev pub invariant-loop-t : goal.invariant-loop-t
invariant-loop-t l = record {
  older : AllOlder (length l.fn.self.nodes) (drop l.t-index l.ts);
  rest : list_all (λ t. ground_normal l.fn.self.nodes t.index) (drop l.t-index l.ts) ≡ list_all (λ t. ground_normal l.fn.self.nodes t.index) l.ts;
}
