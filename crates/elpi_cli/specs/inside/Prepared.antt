-- What reading the words and the files prepares, against the output of the run.
use Rattle.std.specs.Prelude.{◌≡◌, ℕ, List, ⊤, None, Some}
use Rattle.std.specs.declared.option.Option.{Option}
use Rattle.std.specs.String.{string_bytes}
use Rattle.lam_io.specs.declared.byte_text.FileEntry.{FileEntry}
use Rattle.elpi_cli.specs.declared.status.Status.{Status}
use Rattle.elpi_cli.specs.declared.status.Status.TheVariants.{Words, ReadFault, WriteFault, Memory, Refused}
use Rattle.elpi_cli.specs.declared.sources.FileStop.{FileStop}
use Rattle.elpi_cli.specs.declared.sources.FileStop.TheVariants as unread
use Rattle.elpi_cli.specs.declared.top.Prepared.{Prepared}
use Rattle.elpi_cli.specs.declared.top.Prepared.TheVariants.{Search, Line}
use Rattle.elpi_cli.specs.Output.{Output, line_only}
use Rattle.elpi_cli.specs.inside.Searching.{HasOutput}
use Rattle.elpi_cli.specs.Top.{output, IsReadFault}

-- the status of a line
abbrev pub status_of : Prepared → Option Status
status_of (Search job) = None
status_of (Line text status) = Some status

-- this output is to be written of what was prepared
abbrev pub IsOutputOf : Output → Prepared → Type 0
IsOutputOf whole (Search job) = HasOutput job.symbols job.machine job.steps job.answers whole
IsOutputOf whole (Line text status) = whole ≡ line_only (string_bytes text) status

-- some output is
abbrev pub HasSomeOutput : Prepared → Type 0
HasSomeOutput prepared = (whole : Output) × IsOutputOf whole prepared

-- the line of a file that isn't read is to be written
abbrev pub IsLineOf : FileStop → Prepared → Type 0
IsLineOf (unread.Unread line status) prepared = prepared ≡ Line line status
IsLineOf unread.Memory prepared = ⊥

-- the output of the run is to be written, or the line of a failed read
abbrev pub Prepares : List (List ℕ) → List FileEntry → Prepared → Type 0
Prepares words told (Line text ReadFault) = IsReadFault words told (string_bytes text)
Prepares words told prepared = IsOutputOf (output words told) prepared

-- the statuses of a line that comes of the texts
abbrev pub IsTextStatus : Option Status → Type 0
IsTextStatus None = ⊤
IsTextStatus (Some Refused) = ⊤
IsTextStatus (Some status) = ⊥

-- those of a line that comes of a file
abbrev pub IsFileStatus : Option Status → Type 0
IsFileStatus None = ⊤
IsFileStatus (Some Words) = ⊥
IsFileStatus (Some WriteFault) = ⊥
IsFileStatus (Some Memory) = ⊥
IsFileStatus (Some status) = ⊤
