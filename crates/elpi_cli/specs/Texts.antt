-- What is read of the files and of the query.
use Rattle.std.specs.Prelude.{ℕ, ◌+◌, List, [], ◌∷◌, ◌++◌, length, None, Some, Ok, Err, codes, nat_lt, if◌then◌else◌, slice_get, flat_map}
use Rattle.std.specs.Fmt.{decimal}
use Rattle.std.specs.Option.{option_map_or}
use Rattle.std.specs.declared.option.Option.{Option}
use Rattle.std.specs.declared.result.Result.{Result}
use Rattle.lam_io.specs.declared.byte_text.FileEntry.{FileEntry}
use Rattle.lam_io.specs.Reads.{bytes_of}
use Rattle.lp_lexer.specs.declared.error.LexError.{LexError}
use Rattle.lp_lexer.specs.declared.error.LexError.TheVariants.{NotUtf8, BadChar, OpenString, OpenComment, LongName, WideNumber, Memory}
use Rattle.lp_lexer.specs.declared.token.Token.{Token}
use Rattle.lp_lexer.specs.Lexing.{Lexed, tokens_of}
use Rattle.lp_parser.specs.declared.ast.AstTerm.{AstTerm}
use Rattle.lp_parser.specs.declared.ast.Item.{Item}
use Rattle.lp_parser.specs.declared.error.GrammarRule.{GrammarRule}
use Rattle.lp_parser.specs.declared.error.GrammarRule.TheVariants as grammar
use Rattle.lp_parser.specs.Reading as parser
use Rattle.lp_parser.specs.Reading.{Outcome, Accepted, Unexpected, Deep}
use Rattle.elpi_cli.specs.declared.status.Status.TheVariants.{Refused, Missing, TooLong}
use Rattle.elpi_cli.specs.Output.{Output, line, line_only}
use Rattle.elpi_cli.specs.Positions.{line_at, column_at}

-- how many bytes a file may have
abbrev pub file_limit : ℕ
file_limit = 4194304

-- a file before those that are read after it
abbrev pub before_files : FileEntry → Result (List FileEntry) Output → Result (List FileEntry) Output
before_files file (Ok files) = Ok (file ∷ files)
before_files file (Err refusal) = Err refusal

-- a file by its name and what is there, and those that are read after it
abbrev pub with_file : List ℕ → Option (List ℕ) → Result (List FileEntry) Output → Result (List FileEntry) Output
with_file name None later = Err (line_only (codes "missing: " ++ line name) Missing)
with_file name (Some bytes) later =
    if nat_lt file_limit (length bytes) then Err (line_only (codes "too long: " ++ line name) TooLong)
    else before_files (record { name = name; bytes = bytes }) later

-- the named files, in order, or the output of the first that is refused
abbrev pub files_read : List FileEntry → List (List ℕ) → Result (List FileEntry) Output
files_read told [] = Ok []
files_read told (name ∷ names) = with_file name (bytes_of told name) (files_read told names)

-- the name of a token rule
abbrev pub rule_of : LexError → List ℕ
rule_of (NotUtf8 at) = codes "utf8"
rule_of (BadChar at) = codes "char"
rule_of (OpenString at) = codes "string"
rule_of (OpenComment at) = codes "comment"
rule_of (LongName at) = codes "name-length"
rule_of (WideNumber at) = codes "number"
rule_of Memory = []

-- the byte at which a token rule is broken
abbrev pub offset_of : LexError → ℕ
offset_of (NotUtf8 at) = at
offset_of (BadChar at) = at
offset_of (OpenString at) = at
offset_of (OpenComment at) = at
offset_of (LongName at) = at
offset_of (WideNumber at) = at
offset_of Memory = 0

-- the name of a rule of the grammar
abbrev pub grammar_name : GrammarRule → List ℕ
grammar_name grammar.Item = codes "item"
grammar_name grammar.Kind = codes "kind"
grammar_name grammar.TypeItem = codes "type"
grammar_name grammar.Pred = codes "pred"
grammar_name grammar.Constraint = codes "constraint"
grammar_name grammar.Rule = codes "rule"
grammar_name grammar.Clause = codes "clause"
grammar_name grammar.Query = codes "query"

-- the first byte of the token with an index, or the end of the text where there is none
abbrev pub byte_of : Lexed → (index : ℕ) → ℕ
byte_of lexed index = option_map_or (λ token. token.at) (slice_get lexed.items index) (length lexed.text)

-- the line of a text that is refused by a rule at a byte: `refused: FILE:LINE:COLUMN: RULE`
abbrev pub refused_line : (name text : List ℕ) → (at : ℕ) → (rule : List ℕ) → List ℕ
refused_line name text at rule =
    codes "refused: " ++ (name ++ (codes ":" ++ (decimal (line_at text at) ++ (codes ":" ++ (decimal (column_at text at) ++ (codes ": " ++ line rule))))))

-- the line of a text that breaks a token rule
abbrev pub token_line : (name text : List ℕ) → LexError → List ℕ
token_line name text error = refused_line name text (offset_of error) (rule_of error)

-- the line of a text that is refused by a rule at the token with an index
abbrev pub grammar_line : (name : List ℕ) → Lexed → (index : ℕ) → (rule : List ℕ) → List ℕ
grammar_line name lexed index rule = refused_line name lexed.text (byte_of lexed index) rule

-- what the grammar accepts, or the line of the text that it refuses
abbrev pub where_accepted : {A : Type 0} → (name : List ℕ) → Lexed → Outcome A → Result A (List ℕ)
where_accepted name lexed (Accepted a) = Ok a
where_accepted name lexed (Unexpected index rule) = Err (grammar_line name lexed index (grammar_name rule))
where_accepted name lexed (Deep index) = Err (grammar_line name lexed index (codes "deep"))

-- a text and its tokens
abbrev pub lexed_as : List ℕ → List Token → Lexed
lexed_as text tokens = record { text = text; items = tokens }

-- the items of a text of this name, as the file with this number, by its tokens
abbrev pub items_by : (name : List ℕ) → (file : ℕ) → List ℕ → Result (List Token) LexError → Result (List Item) (List ℕ)
items_by name file text (Err error) = Err (token_line name text error)
items_by name file text (Ok tokens) = where_accepted name (lexed_as text tokens) (parser.program_of file (lexed_as text tokens))

-- the items of a text, or the line that refuses it
abbrev pub items_of : (name : List ℕ) → (file : ℕ) → List ℕ → Result (List Item) (List ℕ)
items_of name file text = items_by name file text (tokens_of text)

-- the goal of a query's text by its tokens
abbrev pub goal_by : List ℕ → Result (List Token) LexError → Result AstTerm (List ℕ)
goal_by text (Err error) = Err (token_line (codes "query") text error)
goal_by text (Ok tokens) = where_accepted (codes "query") (lexed_as text tokens) (parser.query_of (lexed_as text tokens))

-- the goal of a query's text, or the line that refuses it
abbrev pub goal_of : List ℕ → Result AstTerm (List ℕ)
goal_of text = goal_by text (tokens_of text)

-- a file's name, and the items of its text
pub record FileItems : Type 0 where
  pub name : List ℕ
  pub items : List Item

-- the file of this name with these items
abbrev pub file_of : (name : List ℕ) → List Item → FileItems
file_of name items = record { name = name; items = items }

-- the items of all files
abbrev pub all_items : List FileItems → List Item
all_items files = flat_map (λ f. f.items) files

-- the items of a file before those of later ones, or its refusal
abbrev pub with_items : (name : List ℕ) → Result (List Item) (List ℕ) → Result (List FileItems) Output → Result (List FileItems) Output
with_items name (Err last) later = Err (line_only last Refused)
with_items name (Ok items) (Ok later) = Ok (file_of name items ∷ later)
with_items name (Ok items) (Err refusal) = Err refusal

-- the items of the files, numbered from this number on, or the output of the first that is refused
abbrev pub items_read : (file : ℕ) → List FileEntry → Result (List FileItems) Output
items_read file [] = Ok []
items_read file (f ∷ fs) = with_items f.name (items_of f.name file f.bytes) (items_read (file + 1) fs)
