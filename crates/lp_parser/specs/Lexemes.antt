-- The lexemes of a text with tokens.
use Rattle.std.specs.Prelude.{ℕ, List, [], ◌∷◌, drop, map, ◌==◌, true, false, if◌then◌else◌}
use Rattle.lp_lexer.specs.declared.token.Keyword.{Keyword}
use Rattle.lp_lexer.specs.declared.token.Keyword.TheVariants as keyword
use Rattle.lp_lexer.specs.declared.token.Symbol.{Symbol}
use Rattle.lp_lexer.specs.declared.token.Symbol.TheVariants as symbol
use Rattle.lp_lexer.specs.declared.token.TokenKind.{TokenKind}
use Rattle.lp_lexer.specs.declared.token.TokenKind.TheVariants as kind
use Rattle.lp_lexer.specs.declared.token.Token.{Token}
use Rattle.lp_lexer.specs.Lexing.{Lexed, text_at}
use Rattle.lp_parser.specs.declared.ast.Place.{Place}
use Rattle.lp_parser.specs.declared.ast.WordKind.TheVariants as word_kind
use Rattle.lp_parser.specs.declared.ast.Operator.TheVariants as operator
use Rattle.lp_parser.specs.declared.lexeme.Literal.TheVariants as literal
use Rattle.lp_parser.specs.declared.lexeme.Closer.TheVariants as closer
use Rattle.lp_parser.specs.declared.lexeme.Mark.TheVariants as mark
use Rattle.lp_parser.specs.declared.lexeme.Lexeme.{Lexeme}
use Rattle.lp_parser.specs.declared.lexeme.Lexeme.TheVariants.{Word, Literal, Quantifier, Infix, Lambda, OpenRound, OpenSquare, Closer, Mark}

-- what a keyword does at its place
abbrev pub keyword_lexeme : Keyword → Place → Lexeme
keyword_lexeme keyword.Pi p = Quantifier true p
keyword_lexeme keyword.Sigma p = Quantifier false p
keyword_lexeme keyword.Pred p = Mark mark.PredWord p
keyword_lexeme keyword.Kind p = Mark mark.KindWord p
keyword_lexeme keyword.TypeWord p = Mark mark.TypeWord p
keyword_lexeme keyword.Constraint p = Mark mark.ConstraintWord p
keyword_lexeme keyword.Rule p = Mark mark.RuleWord p
keyword_lexeme keyword.Is p = Infix operator.Is p

-- what a symbol does at its place
abbrev pub symbol_lexeme : Symbol → Place → Lexeme
symbol_lexeme symbol.Equivalent p = Mark mark.Equivalent p
symbol_lexeme symbol.Implied p = Infix operator.Implied p
symbol_lexeme symbol.Cons p = Infix operator.Cons p
symbol_lexeme symbol.Implies p = Infix operator.Implies p
symbol_lexeme symbol.Arrow p = Mark mark.Arrow p
symbol_lexeme symbol.Turnstile p = Mark mark.Turnstile p
symbol_lexeme symbol.OpenRound p = OpenRound p
symbol_lexeme symbol.CloseRound p = Closer closer.Round p
symbol_lexeme symbol.OpenSquare p = OpenSquare p
symbol_lexeme symbol.CloseSquare p = Closer closer.Square p
symbol_lexeme symbol.OpenCurly p = Mark mark.OpenCurly p
symbol_lexeme symbol.CloseCurly p = Mark mark.CloseCurly p
symbol_lexeme symbol.Bar p = Closer closer.Bar p
symbol_lexeme symbol.Lambda p = Lambda p
symbol_lexeme symbol.Comma p = Infix operator.Comma p
symbol_lexeme symbol.Semicolon p = Infix operator.Or p
symbol_lexeme symbol.Dot p = Mark mark.Dot p
symbol_lexeme symbol.Cut p = Literal literal.Cut p
symbol_lexeme symbol.Equal p = Infix operator.Equal p
symbol_lexeme symbol.Colon p = Mark mark.Colon p
symbol_lexeme symbol.Plus p = Infix operator.Plus p
symbol_lexeme symbol.Minus p = Infix operator.Minus p
symbol_lexeme symbol.Times p = Infix operator.Times p
symbol_lexeme symbol.Greater p = Mark mark.Greater p
symbol_lexeme symbol.Tilde p = Mark mark.Tilde p

-- the character that is meant by one behind a `\` in a string: `n` is a line feed and `t` a tab
abbrev pub meant : ℕ → ℕ
meant c = if c == 110 then 10 else (if c == 116 then 9 else c)

-- The text of a string from here to its closing quote, each escape replaced by its character.
abbrev mutual
  pub unescaped : List ℕ → List ℕ
  unescaped [] = []
  unescaped (c ∷ u) = if c == 34 then [] else (if c == 92 then behind_escape u else c ∷ unescaped u)

  -- the same behind a `\`
  pub behind_escape : List ℕ → List ℕ
  behind_escape [] = []
  behind_escape (c ∷ u) = meant c ∷ unescaped u

-- the text of a string that begins with its opening quote
abbrev pub string_text : List ℕ → List ℕ
string_text u = unescaped (drop 1 u)

-- what a token of that kind does, with its text and its place
abbrev pub lexeme_at : TokenKind → List ℕ → Place → Lexeme
lexeme_at kind.Name x p = Word word_kind.Name x p
lexeme_at kind.Var x p = Word word_kind.Var x p
lexeme_at kind.Hole x p = Word word_kind.Hole x p
lexeme_at (kind.Int n) x p = Literal (literal.Int n) p
lexeme_at kind.Str x p = Literal (literal.Str (string_text x)) p
lexeme_at (kind.Key k) x p = keyword_lexeme k p
lexeme_at (kind.Sym s) x p = symbol_lexeme s p

-- the lexeme of a token in the file with that number
abbrev pub lexeme_of : ℕ → List ℕ → Token → Lexeme
lexeme_of file text t = lexeme_at t.kind (text_at text t) (record { file = file; at = t.at })

-- the lexemes of a text with tokens, in the file with that number
abbrev pub lexemes_of : ℕ → Lexed → List Lexeme
lexemes_of file l = map (lexeme_of file l.text) l.items
