-- What a whole run writes: the reference for the top call.
use Rattle.std.specs.Prelude.{◌≡◌, ℕ, ◌≤◌, List, [], ◌∷◌, ◌++◌, ◌⊎◌, map, length, None, Some, Ok, Err, ⊤, codes, slice_index_or, IsSome, IsSomeAnd}
use Rattle.std.specs.Fmt.{decimal}
use Rattle.std.specs.List.{concat}
use Rattle.std.specs.declared.option.Option.{Option}
use Rattle.std.specs.declared.result.Result.{Result}
use Rattle.lam_io.specs.declared.byte_text.FileEntry.{FileEntry}
use Rattle.lam_io.specs.Reads.{bytes_of}
use Rattle.lam_io.specs.Writes.{IsFront}
use Rattle.lp_parser.specs.declared.ast.AstTerm.{AstTerm}
use Rattle.elpi_cli.specs.declared.words.Command.{Command}
use Rattle.elpi_cli.specs.declared.words.Command.TheVariants.{Run, Gen}
use Rattle.elpi_cli.specs.declared.status.Status.{Status}
use Rattle.elpi_cli.specs.declared.status.Status.TheVariants.{Words, Refused, ReadFault, WriteFault, Memory}
use Rattle.elpi_cli.specs.Words.{usual_steps, command}
use Rattle.elpi_cli.specs.Samples.{sample_files, sample_query}
use Rattle.elpi_cli.specs.Output.{Output, line, line_only, searched}
use Rattle.lp_resolve.specs.StaticRules.{Breach, first_breach}
use Rattle.elpi_cli.specs.Resolved.{resolved_program, searched_program, searched_query}
use Rattle.elpi_cli.specs.Static.{breach_line}
use Rattle.elpi_cli.specs.Texts.{file_limit, files_read, goal_of, FileItems, all_items, items_read}
use Rattle.elpi_cli.specs.Written.{IsWholePieces}

-- the word at an index
abbrev pub word_at : List (List ℕ) → ℕ → List ℕ
word_at words index = slice_index_or words index []

-- the search of a goal over the items of the files, or the refusal of the query's text
abbrev pub query_output : (steps answers : ℕ) → List FileItems → Result AstTerm (List ℕ) → Output
query_output steps answers files (Err last) = line_only last Refused
query_output steps answers files (Ok goal) = searched (searched_program (all_items files) goal) (searched_query (all_items files) goal) steps answers

-- the run over these files with these items, or the refusal of their first breach of a static rule
abbrev pub checked_output : (steps answers : ℕ) → List ℕ → List FileEntry → List FileItems → Option Breach → Output
checked_output steps answers query files items (Some breach) = line_only (breach_line files breach) Refused
checked_output steps answers query files items None = query_output steps answers items (goal_of query)

-- the run over the items of these files, or the refusal of a file's text
abbrev pub texts_output : (steps answers : ℕ) → List ℕ → List FileEntry → Result (List FileItems) Output → Output
texts_output steps answers query files (Err refusal) = refusal
texts_output steps answers query files (Ok items) = checked_output steps answers query files items (first_breach (resolved_program (all_items items)))

-- the run over the files, or the refusal of a file
abbrev pub files_output : (steps answers : ℕ) → List ℕ → Result (List FileEntry) Output → Output
files_output steps answers query (Err refusal) = refusal
files_output steps answers query (Ok files) = texts_output steps answers query files (items_read 0 files)

-- what a command asks for: a query over files, or the refusal of a file, in at most so many steps, up to so many answers
pub record Task : Type 0 where
  pub steps : ℕ
  pub answers : ℕ
  pub query : List ℕ
  pub files : Result (List FileEntry) Output

-- the task of a command
abbrev pub task_of : List (List ℕ) → List FileEntry → Command → Task
task_of words told (Run steps answers query files) =
    record { steps = steps; answers = answers; query = word_at words query; files = files_read told (map (word_at words) files) }
task_of words told (Gen size) = record { steps = usual_steps; answers = 1; query = sample_query; files = Ok (sample_files size) }

-- the names of a command's files
abbrev pub file_names : List (List ℕ) → Result Command ℕ → List (List ℕ)
file_names words (Err index) = []
file_names words (Ok (Run steps answers query files)) = map (word_at words) files
file_names words (Ok (Gen size)) = []

-- the run of a task
abbrev pub task_output : Task → Output
task_output task = files_output task.steps task.answers task.query task.files

-- the run of a command, or the refusal of the words
abbrev pub command_output : List (List ℕ) → List FileEntry → Result Command ℕ → Output
command_output words told (Err index) = line_only (codes "words: bad word at " ++ line (decimal index)) Words
command_output words told (Ok found) = task_output (task_of words told found)

-- The output of the words over these files: the words, then the files in word order, then their texts by tokens and
-- grammar, then the static rules over all of them, then the query's tokens and grammar, then the search. The first
-- refusal decides.
abbrev pub output : List (List ℕ) → List FileEntry → Output
output words told = command_output words told (command words)

-- The files that a run may read: those that are told, or none where no file is named.
abbrev pub files_for : List (List ℕ) → Option (List FileEntry) → Option (List FileEntry)
files_for [] told = Some []
files_for (name ∷ names) told = told

-- the files that the run of these words may read
abbrev pub known_files : List (List ℕ) → Option (List FileEntry) → Option (List FileEntry)
known_files words told = files_for (file_names words (command words)) told

-- each of these files is there, within the limit
abbrev pub AreWithin : List FileEntry → List (List ℕ) → Type 0
AreWithin told [] = ⊤
AreWithin told (name ∷ names) = IsSomeAnd (bytes_of told name) (λ bytes. length bytes ≤ file_limit) × AreWithin told names

-- a file of these names, where those before it are there and within the limit
abbrev pub IsReached : List FileEntry → List (List ℕ) → List ℕ → Type 0
IsReached told names name = (before : List (List ℕ)) × (after : List (List ℕ)) × (names ≡ before ++ name ∷ after) × AreWithin told before

-- a file whose read may have failed: it is there, the words name it, and those before it are there and within the limit
abbrev pub MayFailToRead : List (List ℕ) → List FileEntry → List ℕ → Type 0
MayFailToRead words told name = IsReached told (file_names words (command words)) name × IsSome (bytes_of told name)

-- the line that names a file whose read failed
abbrev pub read_line : List ℕ → List ℕ
read_line name = codes "read fault: " ++ line name

-- these bytes are the line of a file whose read may have failed
abbrev pub IsReadFault : List (List ℕ) → List FileEntry → List ℕ → Type 0
IsReadFault words told bytes = (name : List ℕ) × MayFailToRead words told name × (bytes ≡ read_line name)

-- what the status may be: the reference's, unless memory, a read or a write failed
abbrev pub IsStatusOf : List (List ℕ) → List FileEntry → Status → Type 0
IsStatusOf words told Memory = ⊤
IsStatusOf words told WriteFault = ⊤
IsStatusOf words told ReadFault = (name : List ℕ) × MayFailToRead words told name
IsStatusOf words told status = status ≡ (output words told).status

-- What was written, by the status. After want of memory whole pieces; after a failed write a front of the output, or of
-- the line that names a file whose read failed; after a failed read that line; else all of the output.
abbrev pub IsRunOf : List (List ℕ) → List FileEntry → (read_failed : Type 0) → Status → List ℕ → Type 0
IsRunOf words told read_failed Memory bytes = IsWholePieces (output words told).pieces bytes
IsRunOf words told read_failed WriteFault bytes =
    IsFront (concat (output words told).pieces) bytes ⊎ (read_failed × (whole : List ℕ) × IsReadFault words told whole × IsFront whole bytes)
IsRunOf words told read_failed ReadFault bytes = IsReadFault words told bytes
IsRunOf words told read_failed status bytes = bytes ≡ concat (output words told).pieces
