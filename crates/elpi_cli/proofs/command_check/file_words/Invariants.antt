use Rattle.elpi_cli.specs.Words.{texts}
use Rattle.elpi_cli.proofs.CheckWords.{Reads}
use Rattle.elpi_cli.proofs.command_check.file_words.Given as goal

abbrev pub invariant-loop-index : goal.invariant-loop-index
invariant-loop-index l = Reads (texts l.words) l.indices.items l.index
