-- What stands at the front of a text.
use Rattle.std.specs.Prelude.{ℕ, ◌+◌, List, [], ◌∷◌, Option, Some, None, Bool, true, false, ◌&&◌, ◌||◌, ◌==◌, nat_lt, if◌then◌else◌, take, drop}
use Rattle.lp_lexer.specs.declared.token.Keyword.{Keyword}
use Rattle.lp_lexer.specs.declared.token.TokenKind.{TokenKind}
use Rattle.lp_lexer.specs.declared.token.TokenKind.TheVariants.{Name, Var, Hole, Str, Key}
use Rattle.lp_lexer.specs.declared.piece.StringEnd.{StringEnd}
use Rattle.lp_lexer.specs.declared.piece.StringEnd.TheVariants.{Closed, BadEscape, Open}
use Rattle.lp_lexer.specs.declared.piece.Fault.TheVariants as fault
use Rattle.lp_lexer.specs.declared.piece.Piece.{Piece}
use Rattle.lp_lexer.specs.declared.piece.Piece.TheVariants.{Over, Blank, Lexeme, Fault}
use Rattle.lp_lexer.specs.Scan.{utf8_len, is_blank, is_digit, is_capital, begins_with, line_len, comment_end, starts_name, name_len, string_end, digits_len}
use Rattle.lp_lexer.specs.Words.{keyword_of}
use Rattle.lp_lexer.specs.Symbols.{symbol_piece}
use Rattle.lp_lexer.specs.Numbers.{number_piece}

-- a keyword, or else a name
abbrev pub name_kind : Option Keyword → TokenKind
name_kind None = Name
name_kind (Some k) = Key k

-- A word whose first character is c is a variable where that is an ASCII capital letter or `_`.
abbrev pub word_kind : ℕ → List ℕ → TokenKind
word_kind c w = if c == 95 || is_capital c then Var else name_kind (keyword_of w)

-- whether a character that may begin a name begins the text
abbrev pub begins_name : List ℕ → Bool
begins_name [] = false
begins_name (c ∷ u) = starts_name c

-- whether a `.` begins the text that would join two names
abbrev pub joins : List ℕ → Bool
joins [] = false
joins (c ∷ u) = c == 46 && begins_name u

-- The word of the first n characters, the first of which is c: a name, a variable, a keyword, or the lone `_`. It has at most 255 bytes.
abbrev pub name_piece : ℕ → List ℕ → ℕ → Piece
name_piece c u n =
    if nat_lt 255 (utf8_len (take n u)) then Fault fault.LongName 0
    else (if c == 95 && n == 1 then Lexeme Hole n
    else (if joins (drop n u) then Fault fault.BadChar n else Lexeme (word_kind c (take n u)) n))

-- a comment between `/*` and `*/`, where it has an end
abbrev pub comment_piece : Option ℕ → Piece
comment_piece None = Fault fault.OpenComment 0
comment_piece (Some n) = Blank n

-- a string that ends so
abbrev pub string_piece : StringEnd → Piece
string_piece (Closed n) = Lexeme Str n
string_piece (BadEscape n) = Fault fault.BadChar n
string_piece Open = Fault fault.OpenString 0

-- whether a digit begins the text
abbrev pub begins_digit : List ℕ → Bool
begins_digit [] = false
begins_digit (c ∷ u) = is_digit c

-- The piece at the front of a text.
abbrev pub piece : List ℕ → Piece
piece [] = Over
piece (c ∷ u) =
    if is_blank c then Blank 1
    else (if c == 37 then Blank (line_len u + 1)
    else (if c == 47 && begins_with 42 u then comment_piece (comment_end 2 (drop 1 u))
    else (if starts_name c then name_piece c (c ∷ u) (name_len u + 1)
    else (if c == 34 then string_piece (string_end 1 u)
    else (if is_digit c then number_piece false (c ∷ u) (digits_len u + 1)
    else (if c == 45 && begins_digit u then number_piece true u (digits_len u + 1)
    else symbol_piece c u))))))
