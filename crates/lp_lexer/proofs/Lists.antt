-- The lists of tokens.
use Rattle.std.proofs.Common.{◌≡◌, ℕ, zero, suc, ◌+◌, ◌-◌, ◌<◌, ◌≤◌, ◌^◌, List, [], ◌∷◌, ◌++◌, length, take, drop, refl, sym, ap, subst, ◌∙◌, arith, append_assoc, append-nil, length-append, length-drop, Bool, true, false, if◌then◌else◌, Ok, Err, IsUtf8, chars, encode_utf8_all}
use Rattle.std.specs.Str.{is_utf8}
use Rattle.std.specs.Str.Lossy.{utf8_valid_len}
use Rattle.std.proofs.lemmas.List.{drop-drop, take_all, length-take-le}
use Rattle.std.proofs.lemmas.Option.{same_Some}
use lib.Utf8.{encode}
use Rattle.std.proofs.lemmas.Str.{IsUtf8-from_is_utf8, is_utf8-from_IsUtf8, encodes-chars, length-encode, len_utf8_bounds}
use Rattle.lp_lexer.specs.declared.error.LexError.TheVariants as error
use Rattle.lp_lexer.specs.declared.token.Token.{Token}
use Rattle.lp_lexer.specs.declared.token.TokenKind.{TokenKind}
use Rattle.lp_lexer.specs.declared.piece.Fault.{Fault}
use Rattle.lp_lexer.specs.declared.piece.Piece.{Piece}
use Rattle.lp_lexer.specs.declared.piece.Piece.TheVariants as front
use Rattle.lp_lexer.specs.Scan.{utf8_len}
use Rattle.lp_lexer.specs.Pieces.{piece}
use Rattle.lp_lexer.specs.Lexing.{Answer, error_at, token_at, before, Lexes, over, blank, lexeme, fault_at, IsRead, by_characters, not_utf8, tokens_from, tokens_of, InOrder, AreWithin}
use Rattle.lp_lexer.proofs.Pieces.{blank_some, lexeme_some, over_from, fault_from, blank_from, lexeme_from}

-- What the relation reads the function gives.
complete : {at : ℕ} {u : List ℕ} {r : Answer} → Lexes at u r → tokens_from 0 at u ≡ r
complete (over {at} {u} e) = over_from at u e
complete (blank {at} {n} {u} e l) = blank_from at n u e ∙ complete l
complete (lexeme {at} {n} {u} {k} e l) = lexeme_from at n u k e ∙ ap (before (token_at k at n u)) (complete l)
complete (fault_at {at} {n} {u} {f} e) = fault_from at n u f e

-- where the relation reads what the function gives on texts of fewer than m characters
abbrev Sound : ℕ → Type 0
Sound m = (at : ℕ) (u : List ℕ) → length u < m → Lexes at u (tokens_from 0 at u)

sound_piece : (m at : ℕ) (u : List ℕ) → Sound m → length u < suc m → (p : Piece) → piece u ≡ p → Lexes at u (tokens_from 0 at u)
sound_piece m at u ih h front.Over f = subst (Lexes at u) (sym (over_from at u f)) (over f)
sound_piece m at u ih h (front.Blank n) f =
    subst (Lexes at u) (sym (blank_from at n u f)) (blank f (ih _ (drop n u) (omega (arith, h, length-drop n u, blank_some u n f))))
sound_piece m at u ih h (front.Lexeme k n) f =
    subst (Lexes at u) (sym (lexeme_from at n u k f)) (lexeme f (ih _ (drop n u) (omega (arith, h, length-drop n u, lexeme_some u k n f))))
sound_piece m at u ih h (front.Fault e n) f = subst (Lexes at u) (sym (fault_from at n u e f)) (fault_at f)

sound_below : (m : ℕ) → Sound m
sound_below zero at u h = absurd (omega (arith, h))
sound_below (suc m) at u h = sound_piece m at u (sound_below m) h (piece u) refl

-- The relation reads what the function gives.
sound : (at : ℕ) (u : List ℕ) → Lexes at u (tokens_from 0 at u)
sound at u = sound_below (suc (length u)) at u (omega arith)

-- the answer, where the test of UTF-8 has that value
abbrev answer_if : List ℕ → Bool → Answer
answer_if bytes b = if b then tokens_from 0 0 (chars bytes) else Err (error.NotUtf8 (utf8_valid_len bytes))

is_read_if : (bytes : List ℕ) (b : Bool) → is_utf8 bytes ≡ b → IsRead bytes (answer_if bytes b)
is_read_if bytes true e = by_characters e (sound 0 (chars bytes))
is_read_if bytes false e = not_utf8 e

pub is_read : (bytes : List ℕ) (r : Answer) → tokens_of bytes ≡ r → IsRead bytes r
unfolding tokens_of
is_read bytes r e = subst (IsRead bytes) e (is_read_if bytes (is_utf8 bytes) refl)

pub read_is : {bytes : List ℕ} {r : Answer} → IsRead bytes r → tokens_of bytes ≡ r
unfolding tokens_of
read_is (by_characters {bytes} e l) = ap (answer_if bytes) e ∙ complete l
read_is (not_utf8 {bytes} e) = ap (answer_if bytes) e

-- A text that is UTF-8 has the answer of its characters.
pub by_chars : (bytes u : List ℕ) → IsUtf8 bytes → u ≡ chars bytes → tokens_of bytes ≡ tokens_from 0 0 u
unfolding tokens_of
by_chars bytes u h e = ap (answer_if bytes) (is_utf8-from_IsUtf8 bytes h) ∙ ap (tokens_from 0 0) (sym e)

refused_if : (bytes : List ℕ) (b : Bool) → is_utf8 bytes ≡ b → (IsUtf8 bytes → ⊥) → answer_if bytes b ≡ Err (error.NotUtf8 (utf8_valid_len bytes))
refused_if bytes true e h = absurd (h (IsUtf8-from_is_utf8 bytes e))
refused_if bytes false e h = refl

-- A text that isn't UTF-8 is refused.
pub refused : (bytes : List ℕ) (n : ℕ) → (IsUtf8 bytes → ⊥) → n ≡ utf8_valid_len bytes → tokens_of bytes ≡ Err (error.NotUtf8 n)
unfolding tokens_of
refused bytes n h e = refused_if bytes (is_utf8 bytes) refl h ∙ ap (λ z. Err (error.NotUtf8 z)) (sym e)

-- Lengths in bytes.
utf8_cut : (n : ℕ) (u : List ℕ) → utf8_len (take n u) + utf8_len (drop n u) ≡ utf8_len u
utf8_cut zero u = omega arith
utf8_cut (suc n) [] = omega arith
utf8_cut (suc n) (c ∷ u) = omega (arith, utf8_cut n u)

utf8_some : (n : ℕ) (u : List ℕ) → 0 < n → n ≤ length u → 0 < utf8_len (take n u)
utf8_some zero u some fit = absurd (omega (arith, some))
utf8_some (suc n) [] some fit = absurd (omega (arith, fit))
utf8_some (suc n) (c ∷ u) some fit = omega (arith, (len_utf8_bounds c).0)

utf8_encodes : (u : List ℕ) → utf8_len u ≡ length (encode_utf8_all u)
utf8_encodes [] = refl
utf8_encodes (c ∷ u) = omega (arith, utf8_encodes u, length-encode c, length-append (encode c) (encode_utf8_all u))

pub utf8_chars : (bytes : List ℕ) → IsUtf8 bytes → utf8_len (chars bytes) ≡ length bytes
utf8_chars bytes h = utf8_encodes (chars bytes) ∙ ap length (encodes-chars bytes h)

-- The tokens may begin later than at that byte.
later : (i j len : ℕ) (ts : List Token) → i ≤ j → InOrder j len ts → InOrder i len ts
later i j len [] h o = omega (arith, h, o)
later i j len (t ∷ ts) h o = (omega (arith, h, o.0), o.1, o.2)

-- the tokens stand in order, if there are tokens
abbrev Ordered : ℕ → ℕ → Answer → Type 0
Ordered from len (Ok ts) = InOrder from len ts
Ordered from len (Err e) = Unit {0}

later_answer : (i j len : ℕ) (r : Answer) → i ≤ j → Ordered j len r → Ordered i len r
later_answer i j len (Ok ts) h o = later i j len ts h o
later_answer i j len (Err e) h o = tt

ordered_before : (t : Token) (len : ℕ) (r : Answer) → t.at < t.end → Ordered t.end len r → Ordered t.at len (before t r)
ordered_before t len (Ok ts) some o = (omega arith, some, o)
ordered_before t len (Err e) some o = tt

ordered : {at : ℕ} {u : List ℕ} {r : Answer} → Lexes at u r → (len : ℕ) → at + utf8_len u ≡ len → Ordered at len r
ordered (over {at} {u} e) len h = omega (arith, h)
ordered (blank {at} {n} {u} {r} e l) len h =
    later_answer at (at + utf8_len (take n u)) len r (omega arith) (ordered l len (omega (arith, h, utf8_cut n u)))
ordered (lexeme {at} {n} {u} {k} {r} e l) len h =
    let some = lexeme_some u k n e in
    ordered_before (token_at k at n u) len r (omega (arith, utf8_some n u some.0 some.1)) (ordered l len (omega (arith, h, utf8_cut n u)))
ordered (fault_at e) len h = tt

in_order_if : (u : List ℕ) (b : Bool) (ts : List Token) → is_utf8 u ≡ b → answer_if u b ≡ Ok ts → InOrder 0 (length u) ts
in_order_if u true ts h e = subst (Ordered 0 (length u)) e (ordered (sound 0 (chars u)) (length u) (omega (arith, utf8_chars u (IsUtf8-from_is_utf8 u h))))
in_order_if u false ts h e = absurd cc

pub in_order : (u : List ℕ) (ts : List Token) → tokens_of u ≡ Ok ts → InOrder 0 (length u) ts
unfolding tokens_of
in_order u ts e = in_order_if u (is_utf8 u) ts refl e

not_past : (i len : ℕ) (ts : List Token) → InOrder i len ts → i ≤ len
not_past i len [] o = o
not_past i len (t ∷ ts) o = omega (arith, o.0, o.1, not_past t.end len ts o.2)

within_order : (from len : ℕ) (ts : List Token) → InOrder from len ts → AreWithin len ts
within_order from len [] o i t e = absurd cc
within_order from len (s ∷ ts) o zero t e =
    let same : s ≡ t = same_Some _ _ e in
    subst (λ z. (z.at < z.end) × (z.end ≤ len)) same (o.1, not_past s.end len ts o.2)
within_order from len (s ∷ ts) o (suc i) t e = within_order s.end len ts o.2 i t e

pub within : (u : List ℕ) (ts : List Token) → tokens_of u ≡ Ok ts → AreWithin (length u) ts
within u ts e = within_order 0 (length u) ts (in_order u ts e)

-- the answer with those tokens before
abbrev pub with_front : List Token → Answer → Answer
with_front ts (Ok r) = Ok (ts ++ r)
with_front ts (Err e) = Err e

front_one : (ts : List Token) (t : Token) (r : Answer) → with_front ts (before t r) ≡ with_front (ts ++ t ∷ []) r
front_one ts t (Ok r) = ap Ok (sym (append_assoc ts (t ∷ []) r))
front_one ts t (Err e) = refl

front_nothing : (r : Answer) → r ≡ with_front [] r
front_nothing (Ok r) = refl
front_nothing (Err e) = refl

-- The tokens ts of u were read up to its character i, at the byte at.
pub record IsBehind (u : List ℕ) (i at : ℕ) (ts : List Token) : Type 0 where
  pub reached : i ≤ length u
  pub bytes : at + utf8_len (drop i u) ≡ utf8_len u
  pub rest : tokens_from 0 0 u ≡ with_front ts (tokens_from 0 at (drop i u))

pub begins : (u : List ℕ) → IsBehind u 0 0 []
begins u = record { reached = omega arith; bytes = omega arith; rest = front_nothing (tokens_from 0 0 u) }

-- the characters of `&text[i..]`
pub rest_is : (u : List ℕ) (i : ℕ) → take (length u - i) (drop i u) ≡ drop i u
rest_is u i = take_all (length u - i) (drop i u) (omega (arith, length-drop i u))

-- the number of characters of `&text[i..][..n]`
pub cut_len : (u : List ℕ) (i n : ℕ) → n ≤ length (drop i u) → n ≡ length (take n (take (length u - i) (drop i u)))
cut_len u i n h = sym (ap (λ z. length (take n z)) (rest_is u i) ∙ length-take-le n (drop i u) h)

-- the piece at `&text[i..]`
pub is_rest : (u : List ℕ) (i : ℕ) (p : Piece) → p ≡ piece (take (length u - i) (drop i u)) → piece (drop i u) ≡ p
is_rest u i p e = ap piece (sym (rest_is u i)) ∙ sym e

-- the byte behind `&text[i..][..n]`
pub is_end : (u : List ℕ) (i n at end : ℕ) → end ≡ at + utf8_len (take n (take (length u - i) (drop i u))) → end ≡ at + utf8_len (take n (drop i u))
is_end u i n at end e = e ∙ ap (λ z. at + utf8_len (take n z)) (rest_is u i)

module _ (u : List ℕ) (i at : ℕ) (ts : List Token) (b : IsBehind u i at ts) where
  pub is_over : piece (drop i u) ≡ front.Over → tokens_from 0 0 u ≡ Ok ts
  is_over e = b.rest ∙ ap (with_front ts) (over_from at (drop i u) e) ∙ ap Ok (append-nil ts)

  pub room : (n : ℕ) → n ≤ length (drop i u) → i + n ≤ length u
  room n h = omega (arith, h, length-drop i u, b.reached)

  -- the bytes up to the end of `&text[i..][..n]`
  pub end_fits : (n : ℕ) → utf8_len u < 2 ^ 64 → at + utf8_len (take n (take (length u - i) (drop i u))) < 2 ^ 64
  end_fits n h = omega (arith, h, b.bytes, utf8_cut n (drop i u), ap (λ z. utf8_len (take n z)) (rest_is u i))

  module _ (n end : ℕ) (is : end ≡ at + utf8_len (take n (drop i u))) where
    bytes_more : end + utf8_len (drop (i + n) u) ≡ utf8_len u
    bytes_more = omega (arith, is, b.bytes, utf8_cut n (drop i u), ap utf8_len (drop-drop n i u))

    rest_more : tokens_from 0 (at + utf8_len (take n (drop i u))) (drop n (drop i u)) ≡ tokens_from 0 end (drop (i + n) u)
    rest_more = ap (λ z. tokens_from 0 z (drop n (drop i u))) (sym is) ∙ ap (tokens_from 0 end) (drop-drop n i u)

    pub is_fault : (f : Fault) → piece (drop i u) ≡ front.Fault f n → tokens_from 0 0 u ≡ Err (error_at f end)
    is_fault f e = b.rest ∙ ap (with_front ts) (fault_from at n (drop i u) f e) ∙ ap (λ z. Err (error_at f z)) (sym is)

    pub behind_blank : piece (drop i u) ≡ front.Blank n → IsBehind u (i + n) end ts
    behind_blank e = record {
      reached = room n (blank_some (drop i u) n e).1;
      bytes = bytes_more;
      rest = b.rest ∙ ap (with_front ts) (blank_from at n (drop i u) e ∙ rest_more);
    }

    pub behind_lexeme : (k : TokenKind) → piece (drop i u) ≡ front.Lexeme k n → IsBehind u (i + n) end (ts ++ record { kind = k; at = at; end = end } ∷ [])
    behind_lexeme k e = record {
      reached = room n (lexeme_some (drop i u) k n e).1;
      bytes = bytes_more;
      rest = b.rest ∙ ap (with_front ts) (lexeme_from at n (drop i u) k e ∙ ap (before (token_at k at n (drop i u))) rest_more
          ∙ ap (λ z. before (record { kind = k; at = at; end = z }) (tokens_from 0 end (drop (i + n) u))) (sym is))
          ∙ front_one ts (record { kind = k; at = at; end = end }) (tokens_from 0 end (drop (i + n) u));
    }
