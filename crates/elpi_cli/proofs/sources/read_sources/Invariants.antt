use Rattle.std.proofs.Common.{◌≡◌, ◌≤◌, length, map, IfSome}
use Rattle.elpi_cli.specs.Words.{texts}
use Rattle.elpi_cli.specs.Top.{word_at, files_for}
use Rattle.elpi_cli.proofs.ReadFiles.{Stands}
use Rattle.elpi_cli.proofs.sources.read_sources.Given as goal

-- the files tell what they told, and what was read so far stands before the names that are left
abbrev pub invariant-loop-index : goal.invariant-loop-index
invariant-loop-index g l = (g.F.Files.told l.files ≡ g.F.Files.told l.fn.files)
    × (g.F.Files.faults l.fn.files ≤ g.F.Files.faults l.files)
    × IfSome (files_for (map (word_at (texts l.words)) l.indices) (g.F.Files.told l.fn.files)) (Stands (map (word_at (texts l.words)) l.indices) l.index-index l.sources)
    × (length l.sources ≡ l.index-index)
