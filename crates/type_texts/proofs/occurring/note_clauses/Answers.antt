use Rattle.type_texts.specs.Occurring.{clause_constants}
use Rattle.type_texts.proofs.Noting.{noted-more}
use Rattle.type_texts.proofs.occurring.note_clauses.Goals as goal

pub loop-clause-preserved : goal.loop-clause-preserved
loop-clause-preserved c =
    noted-more clause_constants c.args.constants.now.keys c.loop-clause.constants.keys c.note_clause.new.constants.keys c.args.clauses.now c.loop-clause.clause-index c.clause-item.result c.loop-clause-test.true c.clause-item.is
    c.loop-clause.invariant c.in_ok-note_clause.ensures
