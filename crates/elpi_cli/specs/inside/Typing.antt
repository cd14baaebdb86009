-- What typing the texts of files may answer.
use Rattle.std.specs.Prelude.{◌≡◌, ◌≤◌, ℕ, List, map, length, ⊤, None, Some, Ok, Err, Vec}
use Rattle.std.specs.Global.{Global}
use Rattle.std.specs.String.{string_bytes}
use Rattle.std.specs.declared.result.Result.{Result}
use Rattle.elpi_cli.specs.declared.texts.TextStop.{TextStop}
use Rattle.elpi_cli.specs.declared.texts.TextStop.TheVariants.{Refused, Memory}
use Rattle.elpi_cli.specs.declared.status.Status.TheVariants as Status
use Rattle.elpi_cli.specs.Output.{Output, line_only}
use Rattle.elpi_cli.specs.declared.command_check.Plan.{Plan}
use Rattle.elpi_cli.specs.declared.command_check.Plan.TheVariants.{Lines, Line}
use Rattle.elpi_cli.specs.declared.words.WordsStop.{WordsStop}
use Rattle.elpi_cli.specs.declared.words.WordsStop.TheVariants.{BadWord, Memory as WordsMemory}
use Rattle.elpi_cli.specs.Words.{AllBelow, most_files}
use Rattle.elpi_cli.specs.Top.{word_at}
use Rattle.elpi_cli.specs.Typed.{typed_output, bad_from, check_names}

-- the bytes of lines
abbrev pub bytes_of_lines : List (Vec ℕ Global) → List (List ℕ)
bytes_of_lines lines = map (λ line. line.items) lines

-- these lines, or this refusal, are such an output
abbrev pub Answers : (Output → Type 0) → Result (Vec (Vec ℕ Global) Global) TextStop → Type 0
Answers is (Ok lines) = is (typed_output (bytes_of_lines lines.items))
Answers is (Err (Refused last)) = is (line_only (string_bytes last) Status.Refused)
Answers is (Err Memory) = ⊤

-- the output that is to be written of what was prepared
abbrev pub planned : Plan → Output
planned (Lines lines) = typed_output (bytes_of_lines lines.items)
planned (Line text status) = line_only (string_bytes text) status

-- a line has a status of its own, which isn't that of a failed write or of want of memory
abbrev pub IsPlanned : Plan → Type 0
IsPlanned (Lines lines) = ⊤
IsPlanned (Line text Status.WriteFault) = ⊥
IsPlanned (Line text Status.Memory) = ⊥
IsPlanned (Line text status) = ⊤

-- what reading the words behind `check` may answer: the indices of the files' names, or that of the first bad word
pub record AreFileWords (words : List (List ℕ)) (indices : List ℕ) : Type 0 where
  pub none_bad : bad_from 1 (check_names words) ≡ None
  pub names : map (word_at words) indices ≡ check_names words
  pub below : AllBelow (length words) indices
  pub few : length indices ≤ most_files

abbrev pub ReadsFileWords : List (List ℕ) → Result (Vec ℕ Global) WordsStop → Type 0
ReadsFileWords words (Ok indices) = AreFileWords words indices.items
ReadsFileWords words (Err (BadWord index)) = bad_from 1 (check_names words) ≡ Some index
ReadsFileWords words (Err WordsMemory) = ⊤
