-- How far tokens and comments go. A text is the list of its characters.
use Rattle.std.specs.Prelude.{ℕ, ◌+◌, ◌<◌, ◌≤◌, List, [], ◌∷◌, Option, Some, None, Bool, false, ◌&&◌, ◌||◌, ◌==◌, nat_le, if◌then◌else◌}
use Rattle.std.specs.Char.{len_utf8}
use Rattle.unicode_ident.specs.Ident.{is_xid_start, is_xid_continue}
use Rattle.lp_lexer.specs.declared.piece.StringEnd.{StringEnd}
use Rattle.lp_lexer.specs.declared.piece.StringEnd.TheVariants.{Closed, BadEscape, Open}

-- the number of bytes of a text
abbrev pub utf8_len : List ℕ → ℕ
utf8_len [] = 0
utf8_len (c ∷ u) = len_utf8 c + utf8_len u

-- a space, a tab, a carriage return or a line feed
abbrev pub is_blank : ℕ → Bool
is_blank c = c == 32 || c == 9 || c == 13 || c == 10

-- an ASCII digit
abbrev pub is_digit : ℕ → Bool
is_digit c = nat_le 48 c && nat_le c 57

-- an ASCII capital letter
abbrev pub is_capital : ℕ → Bool
is_capital c = nat_le 65 c && nat_le c 90

-- whether the text begins with the character
abbrev pub begins_with : ℕ → List ℕ → Bool
begins_with c [] = false
begins_with c (d ∷ u) = d == c

-- how many characters stand before the end of the line
abbrev pub line_len : List ℕ → ℕ
line_len [] = 0
line_len (c ∷ u) = if c == 10 then 0 else line_len u + 1

-- Where the comment ends that goes on here, behind n of its characters: how many there are with its `*/`.
abbrev pub comment_end : ℕ → List ℕ → Option ℕ
comment_end n [] = None
comment_end n (c ∷ u) = if c == 42 && begins_with 47 u then Some (n + 2) else comment_end (n + 1) u

-- what a name, a variable or a keyword may begin with
abbrev pub starts_name : ℕ → Bool
starts_name c = is_xid_start c || c == 95

-- whether a character that continues identifiers begins the text
abbrev pub continues_next : List ℕ → Bool
continues_next [] = false
continues_next (c ∷ u) = is_xid_continue c

-- How many characters continue a name: those of identifiers, the apostrophe, and a `-` before one of identifiers.
abbrev pub name_len : List ℕ → ℕ
name_len [] = 0
name_len (c ∷ u) = if is_xid_continue c || c == 39 || (c == 45 && continues_next u) then name_len u + 1 else 0

-- what may stand behind a `\` in a string: `n`, `t`, `\` and `"`
abbrev pub is_escape : ℕ → Bool
is_escape c = c == 110 || c == 116 || c == 92 || c == 34

-- Where the string ends that goes on here, behind n of its characters: how many there are with its closing quote, or before a `\` that begins no escape.
abbrev mutual
  pub string_end : ℕ → List ℕ → StringEnd
  string_end n [] = Open
  string_end n (c ∷ u) = if c == 34 then Closed (n + 1) else (if c == 92 then escape_end n u else string_end (n + 1) u)

  -- the same behind a `\`
  pub escape_end : ℕ → List ℕ → StringEnd
  escape_end n [] = Open
  escape_end n (c ∷ u) = if is_escape c then string_end (n + 2) u else BadEscape n

-- how many ASCII digits begin the text
abbrev pub digits_len : List ℕ → ℕ
digits_len [] = 0
digits_len (c ∷ u) = if is_digit c then digits_len u + 1 else 0

-- a string that ends within so many characters, behind its first
abbrev pub StringFits : ℕ → StringEnd → Type 0
StringFits len (Closed n) = (0 < n) × (n ≤ len)
StringFits len (BadEscape n) = n ≤ len
StringFits len Open = Unit {0}
