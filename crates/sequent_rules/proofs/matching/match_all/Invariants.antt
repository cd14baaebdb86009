use Rattle.std.proofs.Common.{◌≤◌, length}
use Rattle.sequent_rules.specs.inside.Equations.{AllEquationsValid, IsSolving}
use Rattle.sequent_rules.proofs.matching.match_all.Given as goal

abbrev pub invariant-loop-i : goal.invariant-loop-i
invariant-loop-i l = record {
  valid : AllEquationsValid l.heap l.depth l.equations;
  first : l.first_fresh.index ≤ length l.heap.depths;
  solving : IsSolving l.first_fresh.index l.depth l.equations l.fn.heap l.heap l.fn.trail.entries l.trail.entries l.i;
}
