use Rattle.elpi_cli.proofs.Begins.{resolved-goal, resolved-table, builds-engine}
use Rattle.elpi_cli.proofs.built.build_engine.Goals as goal

pub returns : goal.returns
returns c =
    builds-engine c.args.ast.now c.args.goal.now.term c.args.checked.now c.in_ok-query.query c.resolve_query.new.symbols c.in_ok-engine.engine c.requires.program
    (resolved-goal c.args.ast.now c.args.goal.now c.args.symbols c.resolve_query.new.symbols c.in_ok-query.query c.requires.table c.in_ok-query.ensures.table c.in_ok-query.ensures.query)
    (resolved-table c.args.ast.now c.args.goal.now.term c.args.symbols c.resolve_query.new.symbols c.requires.table c.in_ok-query.ensures.table) c.in_ok-engine.ensures
