use Rattle.elpi_cli.specs.inside.Sources.{entries_of}
use Rattle.elpi_cli.proofs.Begins.{refused-text, refused-later, begun}
use Rattle.elpi_cli.proofs.top.begin.Goals as goal

pub returns-in-Err-clause-prepared : goal.returns-in-Err-clause-prepared
returns-in-Err-clause-prepared c =
    refused-text c.args.limits.steps c.args.limits.answers c.args.query.now (entries_of c.args.sources.now) c.in-Err.stop c.refused.result c.in-Err.ensures c.refused.ensures.prepared c.refused.ensures.memory

pub returns-in-Err-engine_for-clause-prepared : goal.returns-in-Err-engine_for-clause-prepared
returns-in-Err-engine_for-clause-prepared c =
    refused-later c.args.limits.steps c.args.limits.answers c.args.query.now (entries_of c.args.sources.now) c.in-Ok.ast c.in-Err-engine_for.stop c.refused-in-Err-engine_for.result
    c.in-Ok.ensures c.in-Err-engine_for.ensures c.refused-in-Err-engine_for.ensures.prepared c.refused-in-Err-engine_for.ensures.memory

pub returns-clause-prepared : goal.returns-clause-prepared
returns-clause-prepared c =
    begun c.args.limits.steps c.args.limits.answers c.args.query.now (entries_of c.args.sources.now) c.in-Ok.ast c.in-Ok-engine_for.engine c.in-Ok.ensures c.in-Ok-engine_for.ensures
