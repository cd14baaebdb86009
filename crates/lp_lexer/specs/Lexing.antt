-- The tokens of a text, or its first fault.
use Rattle.std.specs.Prelude.{◌≡◌, ℕ, zero, suc, ◌+◌, ◌-◌, ◌<◌, ◌≤◌, List, [], ◌∷◌, Some, Result, Ok, Err, IsTrue, IsFalse, chars, take, drop, slice_get, slice_range, if◌then◌else◌}
use Rattle.std.specs.Char.{len_utf8}
use Rattle.std.specs.Str.{is_utf8}
use Rattle.std.specs.Str.Lossy.{utf8_valid_len}
use Rattle.lp_lexer.specs.declared.error.LexError.{LexError}
use Rattle.lp_lexer.specs.declared.error.LexError.TheVariants as error
use Rattle.lp_lexer.specs.declared.token.Token.{Token}
use Rattle.lp_lexer.specs.declared.token.TokenKind.{TokenKind}
use Rattle.lp_lexer.specs.declared.piece.Fault.{Fault}
use Rattle.lp_lexer.specs.declared.piece.Fault.TheVariants as fault
use Rattle.lp_lexer.specs.declared.piece.Piece.{Piece}
use Rattle.lp_lexer.specs.declared.piece.Piece.TheVariants as front
use Rattle.lp_lexer.specs.Scan.{utf8_len}
use Rattle.lp_lexer.specs.Pieces.{piece}

-- A text with tokens.
pub record Lexed : Type 0 where
  pub text : List ℕ
  pub items : List Token

-- the bytes of a token
abbrev pub text_at : List ℕ → Token → List ℕ
text_at text t = slice_range text t.at t.end

-- the tokens, or the fault
abbrev pub Answer : Type 0
Answer = Result (List Token) LexError

-- the fault at a byte
abbrev pub error_at : Fault → ℕ → LexError
error_at fault.BadChar at = error.BadChar at
error_at fault.OpenString at = error.OpenString at
error_at fault.OpenComment at = error.OpenComment at
error_at fault.LongName at = error.LongName at
error_at fault.WideNumber at = error.WideNumber at

-- the token of that kind, from the byte at on, which has the first n characters of u
abbrev pub token_at : TokenKind → ℕ → ℕ → List ℕ → Token
token_at k at n u = record { kind = k; at = at; end = at + utf8_len (take n u) }

-- the token before those of the rest, or the fault of the rest
abbrev pub before : Token → Answer → Answer
before t (Ok ts) = Ok (t ∷ ts)
before t (Err e) = Err e

-- Lexes at u r: from the byte at on, the characters u are read as the tokens or the first fault r.
pub data Lexes : ℕ → List ℕ → Answer → Type 0 where
  over : {at : ℕ} {u : List ℕ} → piece u ≡ front.Over → Lexes at u (Ok [])
  blank : {at n : ℕ} {u : List ℕ} {r : Answer} → piece u ≡ front.Blank n
      → Lexes (at + utf8_len (take n u)) (drop n u) r → Lexes at u r
  lexeme : {at n : ℕ} {u : List ℕ} {k : TokenKind} {r : Answer} → piece u ≡ front.Lexeme k n
      → Lexes (at + utf8_len (take n u)) (drop n u) r → Lexes at u (before (token_at k at n u) r)
  fault_at : {at n : ℕ} {u : List ℕ} {f : Fault} → piece u ≡ front.Fault f n → Lexes at u (Err (error_at f (at + utf8_len (take n u))))

-- IsRead bytes r: a text that is UTF-8 is read by its characters, and any other is refused.
pub data IsRead : List ℕ → Answer → Type 0 where
  by_characters : {bytes : List ℕ} {r : Answer} → IsTrue (is_utf8 bytes) → Lexes 0 (chars bytes) r → IsRead bytes r
  not_utf8 : {bytes : List ℕ} → IsFalse (is_utf8 bytes) → IsRead bytes (Err (error.NotUtf8 (utf8_valid_len bytes)))

-- The answer from the byte at on, where the text u begins with that piece. The rest has the answer behind its next n characters.
abbrev pub by_piece : Piece → ℕ → List ℕ → (ℕ → Answer) → Answer
by_piece front.Over at u rest = Ok []
by_piece (front.Blank n) at u rest = rest (n - 1)
by_piece (front.Lexeme k n) at u rest = before (token_at k at n u) (rest (n - 1))
by_piece (front.Fault f n) at u rest = Err (error_at f (at + utf8_len (take n u)))

-- The answer to the characters from the byte at on, whose first n belong to the piece before.
abbrev pub tokens_from : ℕ → ℕ → List ℕ → Answer
tokens_from n at [] = Ok []
tokens_from (suc n) at (c ∷ u) = tokens_from n (at + len_utf8 c) u
tokens_from zero at (c ∷ u) = by_piece (piece (c ∷ u)) at (c ∷ u) (λ n. tokens_from n (at + len_utf8 c) u)

-- The tokens of a text, or its first fault. A text is the list of its bytes.
unfoldable pub tokens_of : List ℕ → Answer
tokens_of bytes = if is_utf8 bytes then tokens_from 0 0 (chars bytes) else Err (error.NotUtf8 (utf8_valid_len bytes))

-- The error is the answer's fault, or want of memory.
abbrev pub IsFault : Answer → LexError → Type 0
IsFault r error.Memory = Unit {0}
IsFault r e = r ≡ Err e

-- The tokens stand one behind the other between two bytes.
abbrev pub InOrder : ℕ → ℕ → List Token → Type 0
InOrder from len [] = from ≤ len
InOrder from len (t ∷ ts) = (from ≤ t.at) × (t.at < t.end) × InOrder t.end len ts

-- Each token has a character, and ends within so many bytes.
abbrev pub AreWithin : ℕ → List Token → Type 0
AreWithin len ts = (i : ℕ) (t : Token) → slice_get ts i ≡ Some t → (t.at < t.end) × (t.end ≤ len)
