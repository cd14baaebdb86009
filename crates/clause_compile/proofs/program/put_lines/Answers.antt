use Rattle.clause_compile.proofs.PredLemmas.{made-same, lines-more}
use Rattle.clause_compile.proofs.program.put_lines.Goals as goal

pub loop-line-init : goal.loop-line-init
loop-line-init c = made-same c.args.preds.now

pub loop-line-preserved : goal.loop-line-preserved
loop-line-preserved c = lines-more c.args.preds.now c.loop-line.preds c.put_line.new.preds c.args.lines.now c.loop-line.line-index c.line-item.result c.loop-line-test.true c.line-item.is c.loop-line.invariant c.in_ok-put_line.ensures
