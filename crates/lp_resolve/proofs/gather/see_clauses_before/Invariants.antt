use Rattle.std.proofs.Common.{◌≡◌, ◌≤◌, ◌-◌, List, length, fold, drop}
use Rattle.lp_resolve.specs.declared.program.ClauseTree.{ClauseTree}
use Rattle.lp_resolve.specs.Gathered.{Sight, seen, with_line}
use Rattle.lp_resolve.proofs.gather.see_clauses_before.Given as goal

abbrev pub invariant-loop-next : goal.invariant-loop-next
invariant-loop-next l = record {
  within : l.next ≤ length l.clauses;
  same : (rest : List ClauseTree → List Sight) →
      fold seen l.initial.preds (with_line l.line rest (drop l.initial.next l.clauses)) ≡ fold seen l.preds (with_line l.line rest (drop l.next l.clauses));
}

abbrev pub decreases-loop-next : goal.decreases-loop-next
decreases-loop-next l = length l.clauses - l.next
