-- What `check` writes.
use Rattle.std.specs.Prelude.{◌≡◌, ◌⊎◌, ◌||◌, ◌+◌, ℕ, Bool, false, nat_lt, if◌then◌else◌, List, [], ◌∷◌, ◌++◌, drop, None, Some, Ok, Err, codes, IsSome}
use Rattle.std.specs.Fmt.{decimal}
use Rattle.std.specs.Str.{bytes_eq}
use Rattle.std.specs.declared.option.Option.{Option}
use Rattle.std.specs.declared.result.Result.{Result}
use Rattle.lam_io.specs.declared.byte_text.FileEntry.{FileEntry}
use Rattle.lam_io.specs.Reads.{bytes_of}
use Rattle.lp_parser.specs.declared.ast.Place.{Place}
use Rattle.lp_parser.specs.declared.ast.Item.{Item}
use Rattle.lp_resolve.specs.Symbols.{interned_all}
use Rattle.lp_resolve.specs.StaticRules.{Breach, first_breach}
use Rattle.decl_trees.specs.declared.rule.TypeRule.{TypeRule}
use Rattle.decl_trees.specs.declared.rule.TypeRule.TheVariants.{Y1, Y2, Y3, Y4}
use Rattle.decl_trees.specs.declared.trees.DeclTree.{DeclTree}
use Rattle.decl_read.specs.DeclReading.{declarations_of, declared_texts}
use Rattle.type_check.specs.declared.error.TypeError.TheVariants.{Broken}
use Rattle.type_check.specs.Inference.{IsCause}
use Rattle.type_texts.specs.TypeLines.{AreTypeLines}
use Rattle.elpi_cli.specs.declared.status.Status.TheVariants.{Done, Words, Refused, ReadFault}
use Rattle.elpi_cli.specs.Output.{Output, line, line_only}
use Rattle.elpi_cli.specs.Resolved.{program_table, resolved_program}
use Rattle.elpi_cli.specs.Static.{file_with, breach_line}
use Rattle.elpi_cli.specs.Words.{is_option, most_files}
use Rattle.elpi_cli.specs.Top.{IsReached, read_line}
use Rattle.elpi_cli.specs.Texts.{FileItems, all_items, items_read, files_read, refused_line}

-- the name of a rule of types
abbrev pub type_rule_name : TypeRule → List ℕ
type_rule_name Y1 = codes "Y1"
type_rule_name Y2 = codes "Y2"
type_rule_name Y3 = codes "Y3"
type_rule_name Y4 = codes "Y4"

-- the line of a rule of types that is broken at a place
abbrev pub broken_line : List FileEntry → TypeRule → Place → List ℕ
broken_line files rule place = refused_line (file_with files place.file).name (file_with files place.file).bytes place.at (type_rule_name rule)

-- the table of a program and its declarations of kinds and types, and these declarations
abbrev pub typed_table : List Item → List (List ℕ)
typed_table items = interned_all (program_table items) (declared_texts items)

abbrev pub type_declarations : List Item → List DeclTree
type_declarations items = declarations_of (typed_table items) items

-- these lines, each a piece, and then `typed`
abbrev pub typed_output : List (List ℕ) → Output
typed_output lines = record { pieces = lines ++ line (codes "typed") ∷ []; status = Done }

-- the line of the first rule of types that the program of these items breaks, or the lines of its principal types
abbrev pub IsTypesOutput : List FileEntry → List Item → Output → Type 0
IsTypesOutput files items whole =
    ((rule : TypeRule) × (place : Place) × IsCause (typed_table items) (type_declarations items) (resolved_program items) (Broken rule place) × (whole ≡ line_only (broken_line files rule place) Refused))
    ⊎ ((lines : List (List ℕ)) × AreTypeLines (typed_table items) (type_declarations items) (resolved_program items) lines × (whole ≡ typed_output lines))

-- the same behind the static rules
abbrev pub IsCheckedOutput : List FileEntry → List Item → Option Breach → Output → Type 0
IsCheckedOutput files items (Some breach) whole = whole ≡ line_only (breach_line files breach) Refused
IsCheckedOutput files items None whole = IsTypesOutput files items whole

-- behind tokens and grammar
abbrev pub IsTextsOutput : List FileEntry → Result (List FileItems) Output → Output → Type 0
IsTextsOutput files (Err refusal) whole = whole ≡ refusal
IsTextsOutput files (Ok items) whole = IsCheckedOutput files (all_items items) (first_breach (resolved_program (all_items items))) whole

-- behind the reading of files
abbrev pub IsFilesOutput : Result (List FileEntry) Output → Output → Type 0
IsFilesOutput (Err refusal) whole = whole ≡ refusal
IsFilesOutput (Ok files) whole = IsTextsOutput files (items_read 0 files) whole

-- whether the first word is `check`
abbrev pub asks_to_check : List (List ℕ) → Bool
asks_to_check [] = false
asks_to_check (word ∷ words) = bytes_eq word (codes "check")

-- The index of the first word behind `check` that can't stand there, where these words stand from an index on: one that
-- begins with `--`, or a file too many; where no file is named, the index behind the last word.
abbrev pub bad_from : (index : ℕ) → List (List ℕ) → Option ℕ
bad_from index [] = if nat_lt index 2 then Some index else None
bad_from index (word ∷ words) = if is_option word || nat_lt most_files index then Some index else bad_from (index + 1) words

-- the words behind `check` are names of files
abbrev pub check_names : List (List ℕ) → List (List ℕ)
check_names words = drop 1 words

-- what `check` writes of these files, where the words name them or one of them can't stand there
abbrev pub IsWordsOutput : List (List ℕ) → List FileEntry → Option ℕ → Output → Type 0
IsWordsOutput names told (Some index) whole = whole ≡ line_only (codes "words: bad word at " ++ line (decimal index)) Words
IsWordsOutput names told None whole = IsFilesOutput (files_read told names) whole

-- What `check` writes: the words, then the files in word order, then their texts by tokens and grammar, then the static
-- rules over all of them, then the rules of types. The first refusal decides.
abbrev pub IsCheckOutput : List (List ℕ) → List FileEntry → Output → Type 0
IsCheckOutput words told whole = IsWordsOutput (check_names words) told (bad_from 1 (check_names words)) whole

-- the line of a file whose read may have failed: it is there, and those before it are there and within the limit
abbrev pub IsReadOutput : List (List ℕ) → List FileEntry → Output → Type 0
IsReadOutput words told whole = (name : List ℕ) × IsReached told (check_names words) name × IsSome (bytes_of told name) × (whole ≡ line_only (read_line name) ReadFault)

-- what is to be written, where a read may have failed
abbrev pub IsCheckOf : List (List ℕ) → (read_failed : Type 0) → List FileEntry → Output → Type 0
IsCheckOf words read_failed told whole = IsCheckOutput words told whole ⊎ (read_failed × IsReadOutput words told whole)
