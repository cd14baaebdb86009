-- Lines and columns of a text that is UTF-8.
use Rattle.std.specs.Prelude.{ℕ, ◌+◌, suc, Bool, false, ◌&&◌, ◌||◌, List, [], ◌∷◌, nat_eq, nat_lt, nat_le, take, if◌then◌else◌}

-- how many line feeds there are
abbrev pub line_feeds : List ℕ → ℕ
line_feeds [] = 0
line_feeds (b ∷ bytes) = if nat_eq b 10 then suc (line_feeds bytes) else line_feeds bytes

-- a byte that goes on in a character
abbrev pub continues_character : ℕ → Bool
continues_character b = nat_le 128 b && nat_lt b 192

-- how many characters begin
abbrev pub characters : List ℕ → ℕ
characters [] = 0
characters (b ∷ bytes) = if continues_character b then characters bytes else suc (characters bytes)

-- whether there is a line feed
abbrev pub has_line_feed : List ℕ → Bool
has_line_feed [] = false
has_line_feed (b ∷ bytes) = nat_eq b 10 || has_line_feed bytes

-- what stands behind the last line feed; all, where there is none
abbrev pub last_line : List ℕ → List ℕ
last_line [] = []
last_line (b ∷ bytes) = if has_line_feed (b ∷ bytes) then last_line bytes else b ∷ bytes

-- the line of a byte, counted from 1
abbrev pub line_at : List ℕ → ℕ → ℕ
line_at text at = line_feeds (take at text) + 1

-- the column of a byte in characters, counted from 1
abbrev pub column_at : List ℕ → ℕ → ℕ
column_at text at = characters (last_line (take at text)) + 1
