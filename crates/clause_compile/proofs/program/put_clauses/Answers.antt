use Rattle.clause_compile.proofs.PredLemmas.{made-same, clauses-more}
use Rattle.clause_compile.proofs.program.put_clauses.Goals as goal

pub loop-clause-init : goal.loop-clause-init
loop-clause-init c = made-same c.args.preds.now

pub loop-clause-preserved : goal.loop-clause-preserved
loop-clause-preserved c = clauses-more c.args.preds.now c.loop-clause.preds c.put_clause.new.preds c.args.clauses.now c.loop-clause.clause-index c.clause-item.result c.loop-clause-test.true c.clause-item.is c.loop-clause.invariant c.in_ok-put_clause.ensures
