-- Files as they are read, and what reading them may answer.
use Rattle.std.specs.Prelude.{◌≡◌, ℕ, ◌≤◌, List, map, length, Some, Ok, Err, ⊤, IsSome}
use Rattle.std.specs.declared.option.Option.{Option}
use Rattle.std.specs.declared.result.Result.{Result}
use Rattle.std.specs.String.{string_bytes}
use Rattle.lam_io.specs.declared.byte_text.FileEntry.{FileEntry}
use Rattle.lam_io.specs.Reads.{bytes_of}
use Rattle.elpi_cli.specs.declared.sources.Source.{Source}
use Rattle.elpi_cli.specs.declared.sources.FileStop.{FileStop}
use Rattle.elpi_cli.specs.declared.sources.FileStop.TheVariants as unread
use Rattle.elpi_cli.specs.declared.status.Status.TheVariants.{Missing, TooLong, ReadFault}
use Rattle.elpi_cli.specs.Output.{Output, line_only}
use Rattle.elpi_cli.specs.Static.{file_entry}
use Rattle.elpi_cli.specs.Texts.{file_limit, with_file, files_read}
use Rattle.elpi_cli.specs.Top.{read_line, IsReached}

-- a file as it was read
abbrev pub entry_of : Source → FileEntry
entry_of source = file_entry (string_bytes source.name) source.text

-- files as they were read
abbrev pub entries_of : List Source → List FileEntry
entries_of sources = map entry_of sources

-- a read failed
abbrev pub IsFailedRead : FileStop → Type 0
IsFailedRead (unread.Unread line ReadFault) = ⊤
IsFailedRead (unread.Unread line status) = ⊥
IsFailedRead unread.Memory = ⊥

-- the statuses of files that aren't read
abbrev pub IsFileStop : FileStop → Type 0
IsFileStop (unread.Unread line Missing) = ⊤
IsFileStop (unread.Unread line TooLong) = ⊤
IsFileStop (unread.Unread line ReadFault) = ⊤
IsFileStop (unread.Unread line status) = ⊥
IsFileStop unread.Memory = ⊤

-- the file of this name, of which this is told, stops a run: its read may have failed, or it is refused, whatever comes later
abbrev pub StopsAtFile : (name : List ℕ) → Option (List ℕ) → FileStop → Type 0
StopsAtFile name found (unread.Unread line ReadFault) = IsSome found × (string_bytes line ≡ read_line name)
StopsAtFile name found (unread.Unread line status) = (later : Result (List FileEntry) Output) → with_file name found later ≡ Err (line_only (string_bytes line) status)
StopsAtFile name found unread.Memory = ⊤

-- the file of this name was read, as this is told of it
pub record IsSourceOf (name : List ℕ) (found : Option (List ℕ)) (source : Source) : Type 0 where
  pub name_is : string_bytes source.name ≡ name
  pub text_is : found ≡ Some source.text
  pub within : length source.text ≤ file_limit

-- what reading a file may answer
abbrev pub ReadsSource : (name : List ℕ) → Option (List ℕ) → Result Source FileStop → Type 0
ReadsSource name found (Ok source) = IsSourceOf name found source
ReadsSource name found (Err stop) = StopsAtFile name found stop

-- the first of these files that isn't read
abbrev pub StopsAtFiles : List FileEntry → (names : List (List ℕ)) → FileStop → Type 0
StopsAtFiles told names (unread.Unread line ReadFault) = (name : List ℕ) × IsReached told names name × IsSome (bytes_of told name) × (string_bytes line ≡ read_line name)
StopsAtFiles told names (unread.Unread line status) = files_read told names ≡ Err (line_only (string_bytes line) status)
StopsAtFiles told names unread.Memory = ⊤

-- what reading files may answer
abbrev pub ReadsSources : List FileEntry → (names : List (List ℕ)) → Result (List Source) FileStop → Type 0
ReadsSources told names (Ok sources) = files_read told names ≡ Ok (entries_of sources)
ReadsSources told names (Err stop) = StopsAtFiles told names stop
