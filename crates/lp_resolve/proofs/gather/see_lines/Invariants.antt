use Rattle.std.proofs.Common.{◌≡◌, ◌≤◌, List, length, fold, drop}
use Rattle.lp_resolve.specs.Gathered.{seen, merged}
use Rattle.lp_resolve.proofs.gather.see_lines.Given as goal

abbrev pub invariant-loop-line : goal.invariant-loop-line
invariant-loop-line l = record {
  within : l.next ≤ length l.clauses;
  same : fold seen l.initial.preds (merged l.lines l.clauses) ≡ fold seen l.preds (merged (drop l.line-index l.lines) (drop l.next l.clauses));
}
