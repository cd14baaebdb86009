-- Integers at the front of a text.
use Rattle.std.specs.Prelude.{ℕ, ◌+◌, ◌-◌, ◌*◌, ◌^◌, ℤ, pos, neg_ℤ, List, [], ◌∷◌, Option, Some, None, Bool, true, false, nat_lt, nat_le, if◌then◌else◌}
use Rattle.lp_lexer.specs.declared.token.TokenKind.TheVariants.{Int}
use Rattle.lp_lexer.specs.declared.piece.Fault.TheVariants.{WideNumber}
use Rattle.lp_lexer.specs.declared.piece.Piece.{Piece}
use Rattle.lp_lexer.specs.declared.piece.Piece.TheVariants.{Lexeme, Fault}
use Rattle.lp_lexer.specs.Scan.{is_digit}

-- the decimal value of the digits that begin the text, behind digits with the value v
abbrev pub decimal : ℕ → List ℕ → ℕ
decimal v [] = v
decimal v (c ∷ u) = if is_digit c then decimal (v * 10 + (c - 48)) u else v

-- the integer of that value or its negative, where it is one of 64 bits
abbrev pub integer : Bool → ℕ → Option ℤ
integer false m = if nat_lt m (2 ^ 63) then Some (pos m) else None
integer true m = if nat_le m (2 ^ 63) then Some (neg_ℤ (pos m)) else None

-- an integer of so many characters
abbrev pub integer_piece : Option ℤ → ℕ → Piece
integer_piece None n = Fault WideNumber 0
integer_piece (Some k) n = Lexeme (Int k) n

-- The integer of the digits that begin the text, as a token of so many characters.
abbrev pub number_piece : Bool → List ℕ → ℕ → Piece
number_piece negative u n = integer_piece (integer negative (decimal 0 u)) n
