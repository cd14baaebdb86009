use Rattle.std.proofs.Common.{◌≡◌, ◌≤◌, ◌-◌, []}
use Rattle.level_terms.specs.Growth.{Grows}
use Rattle.pattern_unify.specs.inside.Closed.{ClosesAlike}
use Rattle.pattern_unify.proofs.assigning.extended.Given as goal

abbrev pub invariant-loop-level : goal.invariant-loop-level
invariant-loop-level l = record {
  alike : ClosesAlike l.fn.heap l.heap l.fn.body.index l.from l.node.index l.level;
  high : l.level ≤ l.to;
  variables : l.heap.depths ≡ l.fn.heap.depths;
  grows : Grows l.fn.heap l.heap [] [];
}

abbrev pub decreases-loop-level : goal.decreases-loop-level
decreases-loop-level l = l.to - l.level
