use Rattle.std.proofs.Common.{◌≡◌, fold, drop}
use Rattle.lp_resolve.specs.Gathered.{seen, clauses_alone, gathered}
use Rattle.lp_resolve.proofs.gather.gather.Given as goal

abbrev pub invariant-loop-index : goal.invariant-loop-index
invariant-loop-index l = gathered l.lines l.clauses ≡ fold seen l.preds (clauses_alone (drop l.index l.clauses))
