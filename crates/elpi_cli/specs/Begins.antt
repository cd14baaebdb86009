-- What reading the texts gives the search.
use Rattle.std.specs.Prelude.{◌≡◌, ℕ, List, ⊤, None, Some, Ok, Err, codes}
use Rattle.std.specs.String.{string_bytes}
use Rattle.std.specs.declared.result.Result.{Result}
use Rattle.lam_io.specs.declared.byte_text.FileEntry.{FileEntry}
use Rattle.lp_lexer.specs.Lexing.{Lexed}
use Rattle.lp_parser.specs.declared.ast.AstGoal.{AstGoal}
use Rattle.lp_parser.specs.declared.ast.AstTerm.{AstTerm}
use Rattle.lp_parser.specs.declared.ast.Item.{Item}
use Rattle.lp_parser.specs.declared.error.ParseError.{ParseError}
use Rattle.lp_parser.specs.declared.error.ParseError.TheVariants as parser
use Rattle.lp_resolve.specs.declared.program.Program.{Program}
use Rattle.lp_resolve.specs.declared.query.Query.{Query}
use Rattle.lp_resolve.specs.StaticRules.{Breach, first_breach}
use Rattle.lp_resolve.specs.Plain.{plain_program, plain_query}
use Rattle.ref_terms.specs.search.Events.{first_state}
use Rattle.elpi_cli.specs.declared.built.Engine.{Engine}
use Rattle.elpi_cli.specs.declared.texts.TextStop.{TextStop}
use Rattle.elpi_cli.specs.declared.texts.TextStop.TheVariants.{Refused, Memory}
use Rattle.goal_run.specs.Machine.{Runs, state_of}
use Rattle.elpi_cli.specs.inside.Searching.{HasOutput}
use Rattle.elpi_cli.specs.Output.{line_only}
use Rattle.elpi_cli.specs.Top.{texts_output}
use Rattle.elpi_cli.specs.declared.status.Status.TheVariants as Status
use Rattle.elpi_cli.specs.Resolved.{program_table, resolved_program, query_table, resolved_query}
use Rattle.elpi_cli.specs.Texts.{FileItems, all_items, items_read, grammar_name, grammar_line}
use Rattle.elpi_cli.specs.Static.{breach_line}

-- the text is refused with this line, unless memory is wanting
abbrev pub IsRefusal : List ℕ → TextStop → Type 0
IsRefusal line (Refused last) = string_bytes last ≡ line
IsRefusal line Memory = ⊤

-- the text is refused as the parser's error says, unless memory is wanting
abbrev pub IsGrammarStop : (name : List ℕ) → Lexed → ParseError → TextStop → Type 0
IsGrammarStop name lexed (parser.Unexpected index rule) stop = IsRefusal (grammar_line name lexed index (grammar_name rule)) stop
IsGrammarStop name lexed (parser.Deep index) stop = IsRefusal (grammar_line name lexed index (codes "deep")) stop
IsGrammarStop name lexed parser.Memory stop = stop ≡ Memory

-- the text has no tree, and the refusal is the line that says why, unless memory is wanting
abbrev pub StopsAt : {A : Type 0} → Result A (List ℕ) → TextStop → Type 0
StopsAt whole (Refused last) = whole ≡ Err (string_bytes last)
StopsAt whole Memory = ⊤

-- what reading a text may answer, where this is its tree or the line that refuses it
abbrev pub IsReading : {A : Type 0} → Result A (List ℕ) → Result A TextStop → Type 0
IsReading whole (Ok tree) = whole ≡ Ok tree
IsReading whole (Err stop) = StopsAt whole stop

-- the same of a query's text
abbrev pub IsReadGoal : Result AstTerm (List ℕ) → Result AstGoal TextStop → Type 0
IsReadGoal whole (Ok goal) = whole ≡ Ok goal.term
IsReadGoal whole (Err stop) = StopsAt whole stop

-- the program of these items, which breaks no static rule, with its table
pub record IsCheckedOf (items : List Item) (table : List (List ℕ)) (program : Program) : Type 0 where
  pub table_is : table ≡ program_table items
  pub program_is : program ≡ resolved_program items
  pub unbroken : first_breach (resolved_program items) ≡ None

-- the program of these items breaks a static rule in these files, and the line says so, unless memory is wanting
abbrev pub IsBroken : List FileEntry → List Item → TextStop → Type 0
IsBroken files items (Refused last) = (breach : Breach) × (first_breach (resolved_program items) ≡ Some breach) × (string_bytes last ≡ breach_line files breach)
IsBroken files items Memory = ⊤

-- what checking a program may answer
abbrev pub ChecksProgram : List FileEntry → List Item → (table : List (List ℕ)) → Result Program TextStop → Type 0
ChecksProgram files items table (Ok program) = IsCheckedOf items table program
ChecksProgram files items table (Err stop) = IsBroken files items stop

-- the engine for this query over this program, with this table
pub record IsEngineFor (program : Program) (query : Query) (table : List (List ℕ)) (engine : Engine) : Type 0 where
  pub symbols : engine.symbols ≡ table
  pub runs : Runs engine.machine (plain_program table program)
  pub begins : state_of (plain_program table program) engine.machine ≡ first_state (plain_query query)
  pub variables : engine.machine.variables ≡ query.vars

-- the engine for a goal over items
abbrev pub IsEngineOf : List Item → AstTerm → Engine → Type 0
IsEngineOf items goal engine = IsEngineFor (resolved_program items) (resolved_query items goal) (query_table items goal) engine

-- what reading the texts of files may answer
abbrev pub ReadsProgram : List FileEntry → Result (List Item) TextStop → Type 0
ReadsProgram files (Ok ast) = (items : List FileItems) × (items_read 0 files ≡ Ok items) × (ast ≡ all_items items)
ReadsProgram files (Err (Refused last)) = items_read 0 files ≡ Err (line_only (string_bytes last) Status.Refused)
ReadsProgram files (Err Memory) = ⊤

-- What the texts behind the files' items may give: the engine that writes the output of the run, for any limits, or the
-- line that is this output, where one of the texts is refused.
abbrev pub BeginsRun : List FileEntry → List FileItems → (query : List ℕ) → Result Engine TextStop → Type 0
BeginsRun files items query (Ok engine) = (steps limit : ℕ) → HasOutput engine.symbols engine.machine steps limit (texts_output steps limit query files (Ok items))
BeginsRun files items query (Err (Refused last)) = (steps limit : ℕ) → texts_output steps limit query files (Ok items) ≡ line_only (string_bytes last) Status.Refused
BeginsRun files items query (Err Memory) = ⊤
