use Rattle.elpi_cli.specs.inside.Sources.{entries_of}
use Rattle.elpi_cli.proofs.ReadTexts.{Stands}
use Rattle.elpi_cli.proofs.texts.read_program.Given as goal

-- what was read so far stands before the files that are left
abbrev pub invariant-loop-number : goal.invariant-loop-number
invariant-loop-number l = Stands (entries_of l.sources) l.number l.ast
