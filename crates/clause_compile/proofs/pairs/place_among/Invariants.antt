use Rattle.std.proofs.Common.{◌-◌, length}
use Rattle.clause_compile.proofs.PairLemmas.{Found}
use Rattle.clause_compile.proofs.pairs.place_among.Given as goal

abbrev pub invariant-loop-at : goal.invariant-loop-at
invariant-loop-at l = Found l.variable l.heads l.at

abbrev pub decreases-loop-at : goal.decreases-loop-at
decreases-loop-at l = length l.heads - l.at
