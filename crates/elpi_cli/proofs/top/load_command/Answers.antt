use Rattle.std.proofs.Common.{Ok, ap, ◌∙◌}
use Rattle.elpi_cli.specs.Words.{texts}
use Rattle.elpi_cli.proofs.Whole.{sample-prepares}
use Rattle.elpi_cli.proofs.top.load_command.Goals as goal

pub returns-in-Gen-clause-prepared : goal.returns-in-Gen-clause-prepared
returns-in-Gen-clause-prepared g c = λ is.
    sample-prepares (texts c.args.words.now) (g.F.Files.told c.args.files.now) c.in-Gen.size c.load_sample.result (is ∙ ap Ok c.in-Gen.is) c.load_sample.ensures.prepared c.load_sample.ensures.status
