-- Lines and columns byte by byte.
use Rattle.std.proofs.Common.{◌≡◌, ℕ, suc, ◌+◌, ◌<◌, ◌≤◌, Bool, true, false, cond, ◌||◌, ◌&&◌, nat_eq, nat_le, List, [], ◌∷◌, ◌++◌, length, take, get_or, refl, add-one, lt-ltb, le-ltb, le-leb}
use Rattle.std.proofs.lemmas.Bool.{lt-leb}
use Rattle.std.proofs.Math.Seq.{take-suc}
use Rattle.elpi_cli.specs.Positions.{line_feeds, continues_character, characters, has_line_feed, last_line}

-- one more by a test
abbrev pub counted : Bool → ℕ → ℕ
counted true n = suc n
counted false n = n

-- a byte behind others, among the line feeds
line_feeds-behind : (bytes : List ℕ) (b : ℕ) → line_feeds (bytes ++ b ∷ []) ≡ counted (nat_eq b 10) (line_feeds bytes)
line_feeds-behind [] b = go (nat_eq b 10)
  where
    go : (r : Bool) → cond r (suc 0) 0 ≡ counted r 0
    go true = refl
    go false = refl
line_feeds-behind (c ∷ bytes) b = rw (line_feeds-behind bytes b) (go (nat_eq c 10) (nat_eq b 10) (line_feeds bytes))
  where
    go : (s r : Bool) (n : ℕ) → cond s (suc (counted r n)) (counted r n) ≡ counted r (cond s (suc n) n)
    go true true n = refl
    go true false n = refl
    go false true n = refl
    go false false n = refl

-- among the characters
characters-behind : (bytes : List ℕ) (b : ℕ) → characters (bytes ++ b ∷ []) ≡ cond (continues_character b) (characters bytes) (suc (characters bytes))
characters-behind [] b = refl
characters-behind (c ∷ bytes) b = rw (characters-behind bytes b) (go (continues_character c) (continues_character b) (characters bytes))
  where
    go : (s r : Bool) (n : ℕ) → cond s (cond r n (suc n)) (suc (cond r n (suc n))) ≡ cond r (cond s n (suc n)) (suc (cond s n (suc n)))
    go true true n = refl
    go true false n = refl
    go false true n = refl
    go false false n = refl

-- in the test for a line feed
has_line_feed-behind : (bytes : List ℕ) (b : ℕ) → has_line_feed (bytes ++ b ∷ []) ≡ (has_line_feed bytes || nat_eq b 10)
has_line_feed-behind [] b = go (nat_eq b 10)
  where
    go : (r : Bool) → (r || false) ≡ r
    go true = refl
    go false = refl
has_line_feed-behind (c ∷ bytes) b = rw (has_line_feed-behind bytes b) (go (nat_eq c 10) (has_line_feed bytes) (nat_eq b 10))
  where
    go : (s t r : Bool) → (s || (t || r)) ≡ ((s || t) || r)
    go true t r = refl
    go false t r = refl

-- without a line feed the last line is all
last_line-all : (bytes : List ℕ) → has_line_feed bytes ≡ false → last_line bytes ≡ bytes
last_line-all [] none = refl
last_line-all (b ∷ bytes) none = rw none refl

-- in the last line
last_line-behind : (bytes : List ℕ) (b : ℕ) → last_line (bytes ++ b ∷ []) ≡ cond (nat_eq b 10) [] (last_line bytes ++ b ∷ [])
last_line-behind [] b = go (nat_eq b 10)
  where
    go : (r : Bool) → cond (r || false) [] (b ∷ []) ≡ cond r [] (b ∷ [])
    go true = refl
    go false = refl
last_line-behind (c ∷ bytes) b = rw (has_line_feed-behind bytes b, last_line-behind bytes b) (go (nat_eq c 10) (has_line_feed bytes) refl (nat_eq b 10))
  where
    go : (s t : Bool) → has_line_feed bytes ≡ t → (r : Bool)
        → cond (s || (t || r)) (cond r [] (last_line bytes ++ b ∷ [])) (c ∷ bytes ++ b ∷ []) ≡ cond r [] (cond (s || t) (last_line bytes) (c ∷ bytes) ++ b ∷ [])
    go true t e true = refl
    go true t e false = refl
    go false true e true = refl
    go false true e false = refl
    go false false e true = refl
    go false false e false = refl

-- one more byte of a text
one-more : (bytes : List ℕ) (i : ℕ) → i < length bytes → take (i + 1) bytes ≡ take i bytes ++ get_or bytes i 0 ∷ []
one-more bytes i within = rw (add-one i) (take-suc bytes i 0 within)

-- the line behind a line feed, and behind another byte
pub line-behind : (bytes : List ℕ) (i : ℕ) → i < length bytes → line_feeds (take (i + 1) bytes) ≡ counted (nat_eq (get_or bytes i 0) 10) (line_feeds (take i bytes))
line-behind bytes i within = rw (one-more bytes i within) (line_feeds-behind (take i bytes) (get_or bytes i 0))

-- the last line behind a byte
pub last-behind : (bytes : List ℕ) (i : ℕ) → i < length bytes → last_line (take (i + 1) bytes) ≡ cond (nat_eq (get_or bytes i 0) 10) [] (last_line (take i bytes) ++ get_or bytes i 0 ∷ [])
last-behind bytes i within = rw (one-more bytes i within) (last_line-behind (take i bytes) (get_or bytes i 0))

-- the characters of it
pub column-behind : (bytes : List ℕ) (i : ℕ) → i < length bytes
    → characters (last_line (take (i + 1) bytes)) ≡ cond (nat_eq (get_or bytes i 0) 10) 0 (cond (continues_character (get_or bytes i 0)) (characters (last_line (take i bytes))) (suc (characters (last_line (take i bytes)))))
column-behind bytes i within = rw (last-behind bytes i within) (go (nat_eq (get_or bytes i 0) 10))
  where
    go : (r : Bool) → characters (cond r [] (last_line (take i bytes) ++ get_or bytes i 0 ∷ [])) ≡ cond r 0 (cond (continues_character (get_or bytes i 0)) (characters (last_line (take i bytes))) (suc (characters (last_line (take i bytes)))))
    go true = refl
    go false = characters-behind (last_line (take i bytes)) (get_or bytes i 0)

-- an ASCII byte begins a character
pub begins-low : (b : ℕ) → b < 128 → continues_character b ≡ false
begins-low b low = rw (lt-leb 128 b low) refl

-- so does a byte from 192 on
pub begins-high : (b : ℕ) → 192 ≤ b → continues_character b ≡ false
begins-high b high = rw (le-ltb b 192 high) (go (nat_le 128 b))
  where
    go : (r : Bool) → (r && false) ≡ false
    go true = refl
    go false = refl

-- any other goes on in one
pub goes-on : (b : ℕ) → 128 ≤ b → b < 192 → continues_character b ≡ true
goes-on b high low = rw (le-leb 128 b high, lt-ltb b 192 low) refl
