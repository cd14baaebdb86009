-- The pieces at the front of a text have characters, and no more than there are.
use Rattle.std.proofs.Common.{◌≡◌, ℕ, suc, ◌+◌, ◌<◌, ◌≤◌, List, [], ◌∷◌, length, take, drop, refl, subst, arith, ℤ, Bool, true, false, ◌&&◌, ◌||◌, ◌==◌, nat_lt, if◌then◌else◌, Option, Some, None}
use Rattle.unicode_ident.specs.Ident.{is_xid_continue}
use Rattle.lp_lexer.specs.declared.token.Symbol.{Symbol}
use Rattle.lp_lexer.specs.declared.piece.Piece.{Piece}
use Rattle.lp_lexer.specs.declared.piece.Piece.TheVariants.{Over, Blank, Lexeme, Fault}
use Rattle.lp_lexer.specs.declared.piece.StringEnd.{StringEnd}
use Rattle.lp_lexer.specs.declared.piece.StringEnd.TheVariants.{Closed, BadEscape, Open}
use Rattle.lp_lexer.specs.Scan.{utf8_len, is_blank, is_digit, begins_with, line_len, comment_end, starts_name, continues_next, name_len, is_escape, string_end, escape_end, digits_len, StringFits}
use Rattle.lp_lexer.specs.Symbols.{one_symbol, two_symbol, two_at, is_implies, is_equivalent, short_piece, long_piece, symbol_piece}
use Rattle.lp_lexer.specs.Numbers.{decimal, integer, integer_piece}
use Rattle.lp_lexer.specs.Pieces.{joins, name_piece, comment_piece, string_piece, begins_digit, piece}

-- a piece that has a character, and no more than there are
abbrev pub Fits : ℕ → Piece → Type 0
Fits len Over = Unit {0}
Fits len (Blank n) = (0 < n) × (n ≤ len)
Fits len (Lexeme k n) = (0 < n) × (n ≤ len)
Fits len (Fault f n) = n ≤ len

fits_if : {A : Type 0} (P : A → Type 0) (b : Bool) (x y : A) → (b ≡ true → P x) → P y → P (if b then x else y)
fits_if P true x y p q = p refl
fits_if P false x y p q = q

and_right : (b c : Bool) → (b && c) ≡ true → c ≡ true
and_right true c e = e
and_right false c e = absurd cc

begins_some : (d : ℕ) (u : List ℕ) → begins_with d u ≡ true → 1 ≤ length u
begins_some d [] e = absurd cc
begins_some d (c ∷ u) e = omega arith

line_fits : (u : List ℕ) → line_len u ≤ length u
line_fits [] = omega arith
line_fits (c ∷ u) = fits_if (λ z. z ≤ suc (length u)) (c == 10) 0 (line_len u + 1) (λ _. omega arith) (omega (arith, line_fits u))

name_fits : (u : List ℕ) → name_len u ≤ length u
name_fits [] = omega arith
name_fits (c ∷ u) =
    fits_if (λ z. z ≤ suc (length u)) (is_xid_continue c || c == 39 || (c == 45 && continues_next u)) (name_len u + 1) 0
    (λ _. omega (arith, name_fits u)) (omega arith)

digits_fit : (u : List ℕ) → digits_len u ≤ length u
digits_fit [] = omega arith
digits_fit (c ∷ u) = fits_if (λ z. z ≤ suc (length u)) (is_digit c) (digits_len u + 1) 0 (λ _. omega (arith, digits_fit u)) (omega arith)

-- an end between two numbers of characters, if there is one
abbrev EndFits : ℕ → ℕ → Option ℕ → Type 0
EndFits low high None = Unit {0}
EndFits low high (Some n) = (low < n) × (n ≤ high)

end_wider : (low m high : ℕ) (o : Option ℕ) → low ≤ m → EndFits m high o → EndFits low high o
end_wider low m high None h f = tt
end_wider low m high (Some n) h f = (omega (arith, h, f.0), f.1)

comment_fits : (n : ℕ) (u : List ℕ) → EndFits n (n + length u) (comment_end n u)
comment_fits n [] = tt
comment_fits n (c ∷ u) =
    let same : n + 1 + length u ≡ n + suc (length u) = omega arith in
    fits_if (EndFits n (n + suc (length u))) (c == 42 && begins_with 47 u) (Some (n + 2)) (comment_end (n + 1) u)
    (λ e. (omega arith, omega (arith, begins_some 47 u (and_right (c == 42) (begins_with 47 u) e))))
    (end_wider n (n + 1) _ _ (omega arith) (subst (λ z. EndFits (n + 1) z (comment_end (n + 1) u)) same (comment_fits (n + 1) u)))

mutual
  string_fits : (n : ℕ) (u : List ℕ) → StringFits (n + length u) (string_end n u)
  string_fits n [] = tt
  string_fits n (c ∷ u) =
      let same : n + 1 + length u ≡ n + suc (length u) = omega arith in
      fits_if (StringFits (n + suc (length u))) (c == 34) (Closed (n + 1)) (if c == 92 then escape_end n u else string_end (n + 1) u)
      (λ _. (omega arith, omega arith))
      (fits_if (StringFits (n + suc (length u))) (c == 92) (escape_end n u) (string_end (n + 1) u) (λ _. escape_fits n u)
      (subst (λ z. StringFits z (string_end (n + 1) u)) same (string_fits (n + 1) u)))

  escape_fits : (n : ℕ) (u : List ℕ) → StringFits (n + suc (length u)) (escape_end n u)
  escape_fits n [] = tt
  escape_fits n (c ∷ u) =
      let same : n + 2 + length u ≡ n + suc (suc (length u)) = omega arith in
      fits_if (StringFits (n + suc (suc (length u)))) (is_escape c) (string_end (n + 2) u) (BadEscape n)
      (λ _. subst (λ z. StringFits z (string_end (n + 2) u)) same (string_fits (n + 2) u)) (omega arith)

comment_piece_fits : (low len : ℕ) (o : Option ℕ) → EndFits low len o → Fits len (comment_piece o)
comment_piece_fits low len None f = omega arith
comment_piece_fits low len (Some n) f = (omega (arith, f.0), f.1)

string_piece_fits : (len : ℕ) (e : StringEnd) → StringFits len e → Fits len (string_piece e)
string_piece_fits len (Closed n) f = f
string_piece_fits len (BadEscape n) f = f
string_piece_fits len Open f = omega arith

integer_fits : (len : ℕ) (o : Option ℤ) (n : ℕ) → 0 < n → n ≤ len → Fits len (integer_piece o n)
integer_fits len None n some fit = omega arith
integer_fits len (Some k) n some fit = (some, fit)

short_fits : (len : ℕ) (o : Option Symbol) → Fits (suc len) (short_piece o)
short_fits len None = omega arith
short_fits len (Some s) = (omega arith, omega arith)

long_fits : (len c : ℕ) (o : Option Symbol) → Fits (suc (suc len)) (long_piece o c)
long_fits len c None = short_fits (suc len) (one_symbol c)
long_fits len c (Some s) = (omega arith, omega arith)

two_fits : (c : ℕ) (u : List ℕ) → Fits (suc (length u)) (long_piece (two_at c u) c)
two_fits c [] = short_fits 0 (one_symbol c)
two_fits c (d ∷ u) = long_fits (length u) c (two_symbol c d)

implies_two : (u : List ℕ) → is_implies u ≡ true → 2 ≤ length u
implies_two [] e = absurd cc
implies_two (c ∷ u) e = omega (arith, begins_some 62 u (and_right (c == 61) (begins_with 62 u) e))

symbol_fits : (c : ℕ) (u : List ℕ) → Fits (suc (length u)) (symbol_piece c u)
symbol_fits c u =
    fits_if (Fits (suc (length u))) (is_equivalent c u) _ (long_piece (two_at c u) c)
    (λ e. (omega arith, omega (arith, implies_two u (and_right (c == 60) (is_implies u) e)))) (two_fits c u)

name_piece_fits : (c : ℕ) (u : List ℕ) (n : ℕ) → 0 < n → n ≤ length u → Fits (length u) (name_piece c u n)
name_piece_fits c u n some fit =
    fits_if (Fits (length u)) (nat_lt 255 (utf8_len (take n u))) _ _ (λ _. omega arith)
    (fits_if (Fits (length u)) (c == 95 && n == 1) _ _ (λ _. (some, fit))
    (fits_if (Fits (length u)) (joins (drop n u)) _ _ (λ _. fit) (some, fit)))

opened_fits : (u : List ℕ) → 1 ≤ length u → Fits (suc (length u)) (comment_piece (comment_end 2 (drop 1 u)))
opened_fits [] h = absurd (omega (arith, h))
opened_fits (d ∷ u) h =
    let same : 2 + length u ≡ suc (suc (length u)) = omega arith in
    comment_piece_fits 2 _ (comment_end 2 u) (subst (λ z. EndFits 2 z (comment_end 2 u)) same (comment_fits 2 u))

pub piece_fits : (u : List ℕ) → Fits (length u) (piece u)
piece_fits [] = tt
piece_fits (c ∷ u) =
    let P = Fits (suc (length u)) in
    let one : 1 + length u ≡ suc (length u) = omega arith in
    fits_if P (is_blank c) _ _ (λ _. (omega arith, omega arith))
    (fits_if P (c == 37) _ _ (λ _. (omega arith, omega (arith, line_fits u)))
    (fits_if P (c == 47 && begins_with 42 u) _ _ (λ e. opened_fits u (begins_some 42 u (and_right (c == 47) (begins_with 42 u) e)))
    (fits_if P (starts_name c) _ _ (λ _. name_piece_fits c (c ∷ u) (name_len u + 1) (omega arith) (omega (arith, name_fits u)))
    (fits_if P (c == 34) _ _ (λ _. string_piece_fits (suc (length u)) (string_end 1 u) (subst (λ z. StringFits z (string_end 1 u)) one (string_fits 1 u)))
    (fits_if P (is_digit c) _ _ (λ _. integer_fits _ (integer false (decimal 0 (c ∷ u))) (digits_len u + 1) (omega arith) (omega (arith, digits_fit u)))
    (fits_if P (c == 45 && begins_digit u) _ _ (λ _. integer_fits _ (integer true (decimal 0 u)) (digits_len u + 1) (omega arith) (omega (arith, digits_fit u)))
    (symbol_fits c u)))))))
