-- The answers of the pieces at the front of a text.
use Rattle.std.proofs.Common.{◌≡◌, ℕ, zero, suc, ◌+◌, ◌-◌, ◌<◌, ◌≤◌, List, [], ◌∷◌, length, take, drop, refl, sym, ap, subst, ◌∙◌, arith, add-zero, Ok, Err}
use Rattle.std.specs.Char.{len_utf8}
use Rattle.lp_lexer.specs.declared.token.TokenKind.{TokenKind}
use Rattle.lp_lexer.specs.declared.piece.Fault.{Fault}
use Rattle.lp_lexer.specs.declared.piece.Piece.TheVariants as front
use Rattle.lp_lexer.specs.Scan.{utf8_len}
use Rattle.lp_lexer.specs.Pieces.{piece}
use Rattle.lp_lexer.specs.Lexing.{error_at, token_at, before, by_piece, tokens_from}
use Rattle.lp_lexer.proofs.Fits.{Fits, piece_fits}

-- The characters of a piece are passed one by one.
past : (n at : ℕ) (u : List ℕ) → tokens_from n at u ≡ tokens_from 0 (at + utf8_len (take n u)) (drop n u)
past zero at [] = refl
past (suc n) at [] = refl
past zero at (c ∷ u) = ap (λ z. tokens_from 0 z (c ∷ u)) (sym (add-zero at))
past (suc n) at (c ∷ u) =
    let same : at + len_utf8 c + utf8_len (take n u) ≡ at + (len_utf8 c + utf8_len (take n u)) = omega arith in
    past n (at + len_utf8 c) u ∙ ap (λ z. tokens_from 0 z (drop n u)) same

rest_from : (n at c : ℕ) (u : List ℕ) → 0 < n
    → tokens_from (n - 1) (at + len_utf8 c) u ≡ tokens_from 0 (at + utf8_len (take n (c ∷ u))) (drop n (c ∷ u))
rest_from zero at c u h = absurd (omega (arith, h))
rest_from (suc m) at c u h =
    let less : suc m - 1 ≡ m = omega arith in
    let same : at + len_utf8 c + utf8_len (take m u) ≡ at + (len_utf8 c + utf8_len (take m u)) = omega arith in
    ap (λ z. tokens_from z (at + len_utf8 c) u) less ∙ past m (at + len_utf8 c) u ∙ ap (λ z. tokens_from 0 z (drop m u)) same

pub lexeme_some : (u : List ℕ) (k : TokenKind) (n : ℕ) → piece u ≡ front.Lexeme k n → (0 < n) × (n ≤ length u)
lexeme_some u k n e = subst (Fits (length u)) e (piece_fits u)

pub blank_some : (u : List ℕ) (n : ℕ) → piece u ≡ front.Blank n → (0 < n) × (n ≤ length u)
blank_some u n e = subst (Fits (length u)) e (piece_fits u)

pub fault_within : (u : List ℕ) (f : Fault) (n : ℕ) → piece u ≡ front.Fault f n → n ≤ length u
fault_within u f n e = subst (Fits (length u)) e (piece_fits u)

pub over_from : (at : ℕ) (u : List ℕ) → piece u ≡ front.Over → tokens_from 0 at u ≡ Ok []
over_from at [] e = refl
over_from at (c ∷ u) e = ap (λ p. by_piece p at (c ∷ u) (λ n. tokens_from n (at + len_utf8 c) u)) e

pub fault_from : (at n : ℕ) (u : List ℕ) (f : Fault) → piece u ≡ front.Fault f n → tokens_from 0 at u ≡ Err (error_at f (at + utf8_len (take n u)))
fault_from at n [] f e = absurd cc
fault_from at n (c ∷ u) f e = ap (λ p. by_piece p at (c ∷ u) (λ n. tokens_from n (at + len_utf8 c) u)) e

pub blank_from : (at n : ℕ) (u : List ℕ) → piece u ≡ front.Blank n → tokens_from 0 at u ≡ tokens_from 0 (at + utf8_len (take n u)) (drop n u)
blank_from at n [] e = absurd cc
blank_from at n (c ∷ u) e =
    ap (λ p. by_piece p at (c ∷ u) (λ n. tokens_from n (at + len_utf8 c) u)) e ∙ rest_from n at c u (blank_some (c ∷ u) n e).0

pub lexeme_from : (at n : ℕ) (u : List ℕ) (k : TokenKind) → piece u ≡ front.Lexeme k n
    → tokens_from 0 at u ≡ before (token_at k at n u) (tokens_from 0 (at + utf8_len (take n u)) (drop n u))
lexeme_from at n [] k e = absurd cc
lexeme_from at n (c ∷ u) k e =
    ap (λ p. by_piece p at (c ∷ u) (λ n. tokens_from n (at + len_utf8 c) u)) e
    ∙ ap (before (token_at k at n (c ∷ u))) (rest_from n at c u (lexeme_some (c ∷ u) k n e).0)
