-- Symbols at the front of a text.
use Rattle.std.specs.Prelude.{ℕ, List, [], ◌∷◌, Option, Some, None, Bool, false, ◌&&◌, ◌==◌, if◌then◌else◌}
use Rattle.lp_lexer.specs.declared.token.Symbol.{Symbol}
use Rattle.lp_lexer.specs.declared.token.Symbol.TheVariants as symbol
use Rattle.lp_lexer.specs.declared.token.TokenKind.TheVariants.{Sym}
use Rattle.lp_lexer.specs.declared.piece.Fault.TheVariants.{BadChar}
use Rattle.lp_lexer.specs.declared.piece.Piece.{Piece}
use Rattle.lp_lexer.specs.declared.piece.Piece.TheVariants.{Lexeme, Fault}
use Rattle.lp_lexer.specs.Scan.{begins_with}

-- the symbols of one character: `(`, `)`, `[`, `]`, `{`, `}`, `|`, `\`, `,`, `;`, `.`, `!`, `=`, `:`, `+`, `-`, `*`, `>` and `~`
abbrev pub one_symbol : ℕ → Option Symbol
one_symbol c =
    if c == 40 then Some symbol.OpenRound
    else (if c == 41 then Some symbol.CloseRound
    else (if c == 91 then Some symbol.OpenSquare
    else (if c == 93 then Some symbol.CloseSquare
    else (if c == 123 then Some symbol.OpenCurly
    else (if c == 125 then Some symbol.CloseCurly
    else (if c == 124 then Some symbol.Bar
    else (if c == 92 then Some symbol.Lambda
    else (if c == 44 then Some symbol.Comma
    else (if c == 59 then Some symbol.Semicolon
    else (if c == 46 then Some symbol.Dot
    else (if c == 33 then Some symbol.Cut
    else (if c == 61 then Some symbol.Equal
    else (if c == 58 then Some symbol.Colon
    else (if c == 43 then Some symbol.Plus
    else (if c == 45 then Some symbol.Minus
    else (if c == 42 then Some symbol.Times
    else (if c == 62 then Some symbol.Greater
    else (if c == 126 then Some symbol.Tilde
    else None))))))))))))))))))

-- the symbols of two characters: `:-`, `::`, `=>`, `->` and `?-`
abbrev pub two_symbol : ℕ → ℕ → Option Symbol
two_symbol c d =
    if c == 58 && d == 45 then Some symbol.Implied
    else (if c == 58 && d == 58 then Some symbol.Cons
    else (if c == 61 && d == 62 then Some symbol.Implies
    else (if c == 45 && d == 62 then Some symbol.Arrow
    else (if c == 63 && d == 45 then Some symbol.Turnstile
    else None))))

-- the symbol of two characters that begins the text, whose first character is c
abbrev pub two_at : ℕ → List ℕ → Option Symbol
two_at c [] = None
two_at c (d ∷ u) = two_symbol c d

-- whether `=>` begins the text
abbrev pub is_implies : List ℕ → Bool
is_implies [] = false
is_implies (c ∷ u) = c == 61 && begins_with 62 u

-- whether `<=>`, the symbol of three characters, begins the text, whose first character is c
abbrev pub is_equivalent : ℕ → List ℕ → Bool
is_equivalent c u = c == 60 && is_implies u

-- a symbol of one character, or a character that begins no token
abbrev pub short_piece : Option Symbol → Piece
short_piece None = Fault BadChar 0
short_piece (Some s) = Lexeme (Sym s) 1

-- a symbol of two characters, or else what its first one is alone
abbrev pub long_piece : Option Symbol → ℕ → Piece
long_piece None c = short_piece (one_symbol c)
long_piece (Some s) c = Lexeme (Sym s) 2

-- The longest symbol that begins the text, whose first character is c.
abbrev pub symbol_piece : ℕ → List ℕ → Piece
symbol_piece c u = if is_equivalent c u then Lexeme (Sym symbol.Equivalent) 3 else long_piece (two_at c u) c
