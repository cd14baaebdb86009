-- What a list of lexemes is read as.
use Rattle.std.specs.Prelude.{◌≡◌, ℕ, ◌+◌, List, [], ◌∷◌, Option, Some, None, length, sum, nat_le, if◌then◌else◌}
use Rattle.lp_lexer.specs.Lexing.{Lexed}
use Rattle.lp_parser.specs.declared.ast.AstTerm.{AstTerm}
use Rattle.lp_parser.specs.declared.ast.Item.{Item}
use Rattle.lp_parser.specs.declared.error.GrammarRule.{GrammarRule}
use Rattle.lp_parser.specs.declared.error.GrammarRule.TheVariants as rule
use Rattle.lp_parser.specs.declared.error.ParseError.{ParseError}
use Rattle.lp_parser.specs.declared.error.ParseError.TheVariants as error
use Rattle.lp_parser.specs.declared.lexeme.Lexeme.{Lexeme}
use Rattle.lp_parser.specs.declared.state.State.TheVariants.{Want}
use Rattle.lp_parser.specs.declared.item_state.ItemState.TheVariants.{Between}
use Rattle.lp_parser.specs.declared.item_state.QueryState.TheVariants.{Term}
use Rattle.lp_parser.specs.Lexemes.{lexemes_of}
use Rattle.lp_parser.specs.Program.{Program, Query}
use Rattle.lp_parser.specs.Nesting.{Nesting, flat, nested, IsShallow}
use Rattle.lp_parser.specs.Refusal.{rule_after}
use Rattle.lp_parser.specs.inside.ItemMachine.{item_step, item_whole, query_step, query_whole}

-- What is read: the tree, or where the lexemes are refused.
pub data Outcome (A : Type 0) : Type 0 where
  Accepted : A → Outcome A
  Unexpected : ℕ → GrammarRule → Outcome A
  Deep : ℕ → Outcome A

-- The error says where the lexemes are refused. Want of memory says nothing.
abbrev pub IsRefusal : {A : Type 0} → ParseError → Outcome A → Type 0
IsRefusal (error.Unexpected i r) o = o ≡ Unexpected i r
IsRefusal (error.Deep i) o = o ≡ Deep i
IsRefusal error.Memory o = Unit {0}

-- The lexemes are a program of these items, and nowhere nested too deep.
pub record IsProgram (u : List Lexeme) (is : List Item) : Type 0 where
  pub grammar : Program u is
  pub shallow : IsShallow u (length u)

-- The lexemes are a query with this term, and nowhere nested too deep.
pub record IsQuery (u : List Lexeme) (t : AstTerm) : Type 0 where
  pub grammar : Query u t
  pub shallow : IsShallow u (length u)

-- the lists that the grammar has as programs
abbrev pub HasItems : List Lexeme → Type 0
HasItems u = (is : List Item) × Program u is

-- the lists that it has as queries
abbrev pub HasTerm : List Lexeme → Type 0
HasTerm u = (t : AstTerm) × Query u t

-- A reader behind some lexemes: their number, the state of its machine, their nesting, and what the next lexeme stands in.
pub record Reader (Z : Type 0) : Type 0 where
  pub index : ℕ
  pub state : Z
  pub nesting : Nesting
  pub rule : GrammarRule

-- a reader goes on, or has its outcome
pub data Progress (Z A : Type 0) : Type 0 where
  Going : Reader Z → Progress Z A
  Stopped : Outcome A → Progress Z A

-- the reader behind a lexeme, in this state
abbrev pub onward : {Z A : Type 0} → Reader Z → Nesting → GrammarRule → Z → Progress Z A
onward b n r z = if nat_le (sum n.frames) 2000 then Going (record { index = b.index + 1; state = z; nesting = n; rule = r }) else Stopped (Deep b.index)

-- the same where its machine has a state, or none
abbrev pub next : {Z A : Type 0} → Reader Z → Lexeme → Option Z → Progress Z A
next b c None = Stopped (Unexpected b.index b.rule)
next b c (Some z) = onward b (nested b.nesting c) (rule_after b.rule c) z

-- the outcome at the end, where the machine has a tree, or none
abbrev pub ended : {Z A : Type 0} → Reader Z → Option A → Outcome A
ended b None = Unexpected b.index b.rule
ended b (Some t) = Accepted t

-- The outcome over the lexemes, by a machine of these steps whose states may have a tree.
abbrev pub read : {Z A : Type 0} → (Z → Lexeme → Option Z) → (Z → Option A) → Progress Z A → List Lexeme → Outcome A
read f g (Stopped o) u = o
read f g (Going b) [] = ended b (g b.state)
read f g (Going b) (c ∷ u) = read f g (next b c (f b.state c)) u

-- a reader at the first lexeme
abbrev pub first : {Z : Type 0} → Z → GrammarRule → Reader Z
first z r = record { index = 0; state = z; nesting = flat; rule = r }

-- What lexemes are read as, as a program.
unfoldable pub items_of : List Lexeme → Outcome (List Item)
items_of u = read item_step item_whole (Going (first ([], Between) rule.Item)) u

-- What lexemes are read as, as a query.
unfoldable pub term_of : List Lexeme → Outcome AstTerm
term_of u = read query_step query_whole (Going (first (Term (Want [])) rule.Query)) u

-- What the tokens of the file with that number are read as, as a program.
abbrev pub program_of : ℕ → Lexed → Outcome (List Item)
program_of file l = items_of (lexemes_of file l)

-- What tokens are read as, as a query.
abbrev pub query_of : Lexed → Outcome AstTerm
query_of l = term_of (lexemes_of 0 l)
