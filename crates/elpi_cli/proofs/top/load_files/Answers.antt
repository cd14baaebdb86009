use Rattle.elpi_cli.specs.Words.{texts}
use Rattle.elpi_cli.specs.inside.Sources.{entries_of}
use Rattle.elpi_cli.proofs.Whole.{files-prepare, stopped-prepares, line-output, line-status, line-failed}
use Rattle.elpi_cli.proofs.top.load_files.Goals as goal

pub returns-in-Err-clause-prepared : goal.returns-in-Err-clause-prepared
returns-in-Err-clause-prepared g c = λ is.
    stopped-prepares (texts c.args.words.now) (g.F.Files.told c.args.files.now) c.args.limits.steps c.args.limits.answers c.args.query c.args.indices.now c.in-Err.stop c.unread.result is c.in-Err.ensures.read c.unread.ensures

pub returns-in-Err-clause-output : goal.returns-in-Err-clause-output
returns-in-Err-clause-output g c = line-output c.in-Err.stop c.unread.result c.unread.ensures

pub returns-in-Err-clause-status : goal.returns-in-Err-clause-status
returns-in-Err-clause-status g c = line-status c.in-Err.stop c.unread.result c.in-Err.ensures.status c.unread.ensures

pub returns-in-Err-clause-cause : goal.returns-in-Err-clause-cause
returns-in-Err-clause-cause g c = record { later = c.in-Err.ensures.cause.later; rose = λ failed. c.in-Err.ensures.cause.rose (line-failed c.in-Err.stop c.unread.result c.unread.ensures failed) }

pub returns-in-Ok-clause-prepared : goal.returns-in-Ok-clause-prepared
returns-in-Ok-clause-prepared g c = λ is.
    files-prepare (texts c.args.words.now) (g.F.Files.told c.args.files.now) c.args.limits.steps c.args.limits.answers c.args.query c.args.indices.now (entries_of c.in-Ok.sources) c.word_of.result.now c.begin.result is c.word_of.ensures c.in-Ok.ensures.read (rw c.as_slice.ensures at c.begin.ensures.prepared) c.begin.ensures.status
