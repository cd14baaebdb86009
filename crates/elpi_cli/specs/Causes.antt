-- What each status of a run comes of, and the last line that says so.
use Rattle.std.specs.Prelude.{◌≡◌, ℕ, suc, ◌+◌, ◌<◌, List, [], ◌∷◌, ◌++◌, ◌⊎◌, ⊤, length, None, Some, Ok, Err, codes, IsSomeAnd, IsOk}
use Rattle.std.specs.Fmt.{decimal}
use Rattle.std.specs.List.{concat}
use Rattle.std.specs.declared.option.Option.{Option}
use Rattle.lam_io.specs.declared.byte_text.FileEntry.{FileEntry}
use Rattle.lam_io.specs.Reads.{bytes_of}
use Rattle.lam_io.specs.Writes.{Appended}
use Rattle.lp_parser.specs.declared.ast.AstTerm.{AstTerm}
use Rattle.ref_terms.specs.declared.fault.Fault.{Fault}
use Rattle.ref_terms.specs.unification.Unification.{unify}
use Rattle.ref_terms.specs.search.Fault.{fault_name}
use Rattle.ref_terms.specs.search.Program.{Program, Query}
use Rattle.ref_terms.specs.search.Branch.{Branch}
use Rattle.ref_terms.specs.search.State.{Event, Answered, Failure, Faulted}
use Rattle.ref_terms.specs.search.Events.{events, first_state}
use Rattle.elpi_cli.specs.declared.words.Command.{Command}
use Rattle.elpi_cli.specs.declared.status.Status.{Status}
use Rattle.elpi_cli.specs.declared.status.Status.TheVariants.{ReadFault, WriteFault, Memory}
use Rattle.elpi_cli.specs.Words.{command}
use Rattle.elpi_cli.specs.Output.{Output, line}
use Rattle.lp_resolve.specs.StaticRules.{Breach, first_breach}
use Rattle.elpi_cli.specs.Resolved.{resolved_program, searched_program, searched_query}
use Rattle.elpi_cli.specs.Static.{breach_line}
use Rattle.elpi_cli.specs.Texts.{file_limit, items_of, FileItems, all_items, items_read, goal_of}
use Rattle.elpi_cli.specs.Top.{task_of, file_names, IsReached}

-- the last piece of the output is this line
abbrev pub EndsWith : Output → List ℕ → Type 0
EndsWith output last = (front : List (List ℕ)) × (output.pieces ≡ front ++ last ∷ [])

-- memory, a read or a write failed
abbrev pub IsFailure : Status → Type 0
IsFailure Memory = ⊤
IsFailure ReadFault = ⊤
IsFailure WriteFault = ⊤
IsFailure status = ⊥

-- The status comes exactly where the cause holds of some last line, unless memory, a read or a write failed; and that line
-- is the last piece of the output.
abbrev pub ComesBy : (cause : List ℕ → Type 0) → Output → (status result : Status) → Type 0
ComesBy cause output status result =
    (result ≡ status → (last : List ℕ) × cause last × EndsWith output last) × ((last : List ℕ) → cause last → IsFailure result ⊎ (result ≡ status))

-- the status comes exactly where the fact holds, unless memory or a write failed
abbrev pub ComesExactlyBy : (fact : Type 0) → (status result : Status) → Type 0
ComesExactlyBy fact status result =
    (result ≡ status → fact) × (fact → (result ≡ Memory) ⊎ ((result ≡ WriteFault) ⊎ (result ≡ status)))

-- want of memory, or the status of the output, with all of its bytes written
abbrev pub IsComplete : Output → (before after : Option (List ℕ)) → Status → Type 0
IsComplete output before after result =
    (result ≡ Memory) ⊎ ((result ≡ output.status) × Appended before after (λ bytes. bytes ≡ concat output.pieces))

-- the word with an index can't stand there, or is missing
abbrev pub IsBadWord : List (List ℕ) → (last : List ℕ) → Type 0
IsBadWord words last = (index : ℕ) × (command words ≡ Err index) × (last ≡ codes "words: bad word at " ++ line (decimal index))

-- a named file isn't there, and those before it are there, within the limit
abbrev pub IsMissing : List (List ℕ) → List FileEntry → (last : List ℕ) → Type 0
IsMissing words told last =
    (name : List ℕ) × IsReached told (file_names words (command words)) name × (bytes_of told name ≡ None) × (last ≡ codes "missing: " ++ line name)

-- a named file passes the limit, and those before it are there, within the limit
abbrev pub IsTooLong : List (List ℕ) → List FileEntry → (last : List ℕ) → Type 0
IsTooLong words told last =
    (name : List ℕ) × IsReached told (file_names words (command words)) name
    × IsSomeAnd (bytes_of told name) (λ bytes. file_limit < length bytes) × (last ≡ codes "too long: " ++ line name)

-- the words are a command that asks for this query over these files, with these limits
pub record IsReady (words : List (List ℕ)) (told : List FileEntry) (steps answers : ℕ) (query : List ℕ) (files : List FileEntry) : Type 0 where
  pub asked : Command
  pub command_is : command words ≡ Ok asked
  pub task_is : task_of words told asked ≡ record { steps = steps; answers = answers; query = query; files = Ok files }

-- tokens and grammar accept the texts of these files, where the first has this number
abbrev pub AreAccepted : (file : ℕ) → List FileEntry → Type 0
AreAccepted file [] = ⊤
AreAccepted file (f ∷ fs) = IsOk (items_of f.name file f.bytes) × AreAccepted (file + 1) fs

-- tokens or grammar refuse a file's text with this line, and accept those before it
abbrev pub IsRefusedFile : List FileEntry → (last : List ℕ) → Type 0
IsRefusedFile files last =
    (before : List FileEntry) × (f : FileEntry) × (after : List FileEntry) × (files ≡ before ++ f ∷ after)
    × AreAccepted 0 before × (items_of f.name (length before) f.bytes ≡ Err last)

-- tokens and grammar accept all files with these items, and these break no static rule
abbrev pub AreChecked : List FileEntry → List FileItems → Type 0
AreChecked files items = (items_read 0 files ≡ Ok items) × (first_breach (resolved_program (all_items items)) ≡ None)

-- tokens and grammar accept all files, and the first static rule that their program breaks has this line
abbrev pub IsRefusedProgram : List FileEntry → (last : List ℕ) → Type 0
IsRefusedProgram files last =
    (items : List FileItems) × (items_read 0 files ≡ Ok items)
    × (breach : Breach) × (first_breach (resolved_program (all_items items)) ≡ Some breach) × (last ≡ breach_line files breach)

-- tokens or grammar refuse the query's text with this line, and all files are accepted and break no static rule
abbrev pub IsRefusedQuery : List FileEntry → (query last : List ℕ) → Type 0
IsRefusedQuery files query last = (items : List FileItems) × AreChecked files items × (goal_of query ≡ Err last)

-- all files are read, and the first refusal of a text has this line
abbrev pub IsRefused : List (List ℕ) → List FileEntry → (last : List ℕ) → Type 0
IsRefused words told last =
    (steps : ℕ) × (answers : ℕ) × (query : List ℕ) × (files : List FileEntry) × IsReady words told steps answers query files
    × (IsRefusedFile files last ⊎ (IsRefusedProgram files last ⊎ IsRefusedQuery files query last))

-- the words and the files ask for the search of this query over this program, with at most so many steps and answers
pub record Searches (words : List (List ℕ)) (told : List FileEntry) (program : Program) (query : Query) (steps answers : ℕ) : Type 0 where
  pub text : List ℕ
  pub files : List FileEntry
  pub items : List FileItems
  pub goal : AstTerm
  pub ready : IsReady words told steps answers text files
  pub checked : AreChecked files items
  pub goal_is : goal_of text ≡ Ok goal
  pub program_is : program ≡ searched_program (all_items items) goal
  pub query_is : query ≡ searched_query (all_items items) goal

-- the events of that search, and its answer limit
abbrev pub Shows : List (List ℕ) → List FileEntry → (limit : ℕ) → List Event → Type 0
Shows words told limit shown =
    (program : Program) × (query : Query) × (steps : ℕ) × Searches words told program query steps limit × (shown ≡ events unify program steps (first_state query))

-- none of these events ends a search
abbrev pub AreOnTheWay : List Event → Type 0
AreOnTheWay [] = ⊤
AreOnTheWay (Failure ∷ later) = ⊥
AreOnTheWay (Faulted fault ∷ later) = ⊥
AreOnTheWay (event ∷ later) = AreOnTheWay later

-- how many answers there are among the events
abbrev pub answers_in : List Event → ℕ
answers_in [] = 0
answers_in (Answered branch ∷ later) = suc (answers_in later)
answers_in (event ∷ later) = answers_in later

-- after so many answers one more is wanted, as the limit isn't reached; the limit 0 is none
abbrev pub IsWanted : (limit count : ℕ) → Type 0
IsWanted limit count = 0 < limit → count < limit

-- the search comes to this event after the events before it, which neither end it nor reach the limit
abbrev pub ComesTo : (limit : ℕ) → List Event → (before : List Event) → Event → Type 0
ComesTo limit shown before event =
    (after : List Event) × (shown ≡ before ++ event ∷ after) × AreOnTheWay before × IsWanted limit (answers_in before)

-- the search comes to a fault
abbrev pub HasFaulted : (limit : ℕ) → List Event → (last : List ℕ) → Type 0
HasFaulted limit shown last =
    (before : List Event) × (fault : Fault) × ComesTo limit shown before (Faulted fault) × (last ≡ codes "fault: " ++ line (fault_name fault))

-- no event ends the search, and the limit isn't reached
abbrev pub HasRunOut : (limit : ℕ) → List Event → (last : List ℕ) → Type 0
HasRunOut limit shown last = AreOnTheWay shown × IsWanted limit (answers_in shown) × (last ≡ line (codes "out of steps"))

-- the search comes to a failure, without an answer before it
abbrev pub HasFailed : (limit : ℕ) → List Event → (last : List ℕ) → Type 0
HasFailed limit shown last =
    (before : List Event) × ComesTo limit shown before Failure × (answers_in before ≡ 0) × (last ≡ line (codes "failure"))

-- the search comes to a failure, after at least one answer
abbrev pub HasNoMore : (limit : ℕ) → List Event → (last : List ℕ) → Type 0
HasNoMore limit shown last =
    (before : List Event) × ComesTo limit shown before Failure × (0 < answers_in before) × (last ≡ line (codes "no more"))

-- the search comes to the answer that reaches the limit
abbrev pub HasStopped : (limit : ℕ) → List Event → (last : List ℕ) → Type 0
HasStopped limit shown last =
    (before : List Event) × (branch : Branch) × ComesTo limit shown before (Answered branch)
    × (answers_in before + 1 ≡ limit) × (last ≡ line (codes "stopped"))

-- the search that the words and the files ask for comes to a fault
abbrev pub IsFault : List (List ℕ) → List FileEntry → (last : List ℕ) → Type 0
IsFault words told last = (limit : ℕ) × (shown : List Event) × Shows words told limit shown × HasFaulted limit shown last

-- its steps are used up before an end and before the limit
abbrev pub IsOutOfSteps : List (List ℕ) → List FileEntry → (last : List ℕ) → Type 0
IsOutOfSteps words told last = (limit : ℕ) × (shown : List Event) × Shows words told limit shown × HasRunOut limit shown last

-- it fails without an answer
abbrev pub IsNoAnswer : List (List ℕ) → List FileEntry → (last : List ℕ) → Type 0
IsNoAnswer words told last = (limit : ℕ) × (shown : List Event) × Shows words told limit shown × HasFailed limit shown last

-- it fails after an answer, or reaches the limit
abbrev pub IsDone : List (List ℕ) → List FileEntry → (last : List ℕ) → Type 0
IsDone words told last =
    (limit : ℕ) × (shown : List Event) × Shows words told limit shown × (HasNoMore limit shown last ⊎ HasStopped limit shown last)
