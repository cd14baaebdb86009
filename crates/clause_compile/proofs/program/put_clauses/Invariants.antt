use Rattle.std.proofs.Common.{take}
use Rattle.lp_resolve.specs.Laws.{headed_first}
use Rattle.clause_compile.specs.inside.Fit.{MadeOf}
use Rattle.clause_compile.proofs.program.put_clauses.Given as goal

abbrev pub invariant-loop-clause : goal.invariant-loop-clause
invariant-loop-clause l = MadeOf l.fn.preds l.preds (λ s. headed_first s (take l.clause-index l.clauses))
