use Rattle.std.proofs.Common.{sym, ap, ◌∙◌}
use Rattle.elpi_cli.specs.Texts.{goal_of}
use Rattle.elpi_cli.specs.inside.Sources.{entries_of}
use Rattle.elpi_cli.proofs.Begins.{begins-broken, begins-refused, begins-search}
use Rattle.elpi_cli.proofs.top.engine_for.Goals as goal

pub returns-in-Err : goal.returns-in-Err
returns-in-Err c = λ items text. begins-broken (entries_of c.args.sources.now) items c.args.ast.now c.args.query.now c.in-Err.stop text c.in-Err.ensures

pub returns-in-Err-read_goal : goal.returns-in-Err-read_goal
returns-in-Err-read_goal c = λ items text.
    begins-refused (entries_of c.args.sources.now) items c.args.ast.now c.args.query.now (goal_of c.as_bytes.result.now) c.in-Err-read_goal.stop text c.in-Ok.ensures.unbroken
    (ap goal_of (sym c.as_bytes.ensures.value)) c.in-Err-read_goal.ensures

pub returns : goal.returns
returns c = λ items text.
    begins-search (entries_of c.args.sources.now) items c.args.ast.now c.args.query.now c.in-Ok-read_goal.goal.term c.in-Ok-build_engine.engine text c.in-Ok.ensures.unbroken
    (ap goal_of (sym c.as_bytes.ensures.value) ∙ c.in-Ok-read_goal.ensures) c.in-Ok-build_engine.ensures
