use Rattle.elpi_cli.specs.Written.{Progress}
use Rattle.elpi_cli.specs.Typed.{typed_output}
use Rattle.elpi_cli.specs.inside.Typing.{bytes_of_lines}
use Rattle.elpi_cli.proofs.TypedLines.{left_output}
use Rattle.elpi_cli.proofs.command_check.write_lines.Given as goal

abbrev pub invariant-loop-line : goal.invariant-loop-line
invariant-loop-line g l = Progress g.K.Sink.told g.K.Sink.faults g.K.Sink.stopped l.fn.sink l.sink (left_output l.lines l.line-index) (typed_output (bytes_of_lines l.lines))
