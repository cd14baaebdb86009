use Rattle.std.proofs.Common.{ℕ, List, [], ◌∷◌, subst, arith}
use Rattle.elpi_cli.specs.declared.status.Status.TheVariants.{Done, WriteFault}
use Rattle.elpi_cli.specs.Output.{preceded}
use Rattle.elpi_cli.specs.Written.{Emits, all_of}
use Rattle.elpi_cli.specs.Typed.{typed_output}
use Rattle.elpi_cli.specs.inside.Typing.{bytes_of_lines}
use Rattle.elpi_cli.proofs.Progress.{started}
use Rattle.elpi_cli.proofs.TypedLines.{line-written, line-failed-write, lines-written}
use Rattle.elpi_cli.proofs.command_check.write_lines.Goals as goal

pub loop-line-init : goal.loop-line-init
loop-line-init g c = started g.K.Sink.told g.K.Sink.faults g.K.Sink.stopped c.args.sink.now (typed_output (bytes_of_lines c.args.lines.now))

pub returns-in-Err : goal.returns-in-Err
returns-in-Err g c =
    line-failed-write g.K.Sink.told g.K.Sink.faults g.K.Sink.stopped c.args.lines.now c.loop-line.line-index c.line-item.result c.loop-line-test.true c.line-item.is c.args.sink.now c.loop-line.sink c.emit.new.sink c.loop-line.invariant
    (λ rest. subst (λ (piece : List ℕ). Emits g.K.Sink.told g.K.Sink.faults g.K.Sink.stopped c.loop-line.sink c.emit.new.sink (preceded (piece ∷ []) rest) WriteFault) c.as_slice.ensures.value (c.in-Err.ensures.err rest))

pub loop-line-preserved : goal.loop-line-preserved
loop-line-preserved g c =
    line-written g.K.Sink.told g.K.Sink.faults g.K.Sink.stopped c.args.lines.now c.loop-line.line-index c.line-item.result c.loop-line-test.true c.line-item.is c.args.sink.now c.loop-line.sink c.emit.new.sink c.loop-line.invariant
    (subst (λ (piece : List ℕ). Emits g.K.Sink.told g.K.Sink.faults g.K.Sink.stopped c.loop-line.sink c.emit.new.sink (all_of (piece ∷ [])) Done) c.as_slice.ensures.value c.in-Ok.ensures.ok)

pub returns : goal.returns
returns g c =
    lines-written g.K.Sink.told g.K.Sink.faults g.K.Sink.stopped c.args.lines.now c.loop-line.line-index c.args.sink.now c.loop-line.sink c.close.new.sink c.close.result (omega (arith, c.loop-line-test.false)) c.loop-line.invariant c.close.ensures.emits
