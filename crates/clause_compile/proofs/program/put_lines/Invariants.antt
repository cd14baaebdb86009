use Rattle.std.proofs.Common.{take}
use Rattle.lp_resolve.specs.Laws.{declared_first}
use Rattle.clause_compile.specs.inside.Fit.{MadeOf}
use Rattle.clause_compile.proofs.program.put_lines.Given as goal

abbrev pub invariant-loop-line : goal.invariant-loop-line
invariant-loop-line l = MadeOf l.fn.preds l.preds (λ s. declared_first s (take l.line-index l.lines))
