-- The values of digits.
use Rattle.std.proofs.Common.{◌≡◌, ℕ, ◌+◌, ◌-◌, ◌*◌, ◌^◌, ◌<◌, ◌≤◌, List, [], ◌∷◌, Bool, true, false, nat_le, if◌then◌else◌, Some, None, arith}
use Rattle.std.proofs.lemmas.Bool.Decides.{nat_tests}
use Rattle.lp_lexer.specs.Scan.{is_digit}
use Rattle.lp_lexer.specs.Numbers.{decimal}

grows_if : (b : Bool) (v x : ℕ) → v ≤ x → v ≤ (if b then x else v)
grows_if true v x h = h
grows_if false v x h = omega arith

pub decimal_grows : (v : ℕ) (u : List ℕ) → v ≤ decimal v u
decimal_grows v [] = omega arith
decimal_grows v (c ∷ u) = grows_if (is_digit c) v _ (omega (arith, decimal_grows (v * 10 + (c - 48)) u))

-- A value that is past the limit before the digits end is past it behind them.
pub past_limit : (m v : ℕ) (u : List ℕ) → decimal v u ≡ m → 2 ^ 63 < v → None ≡ (if nat_le m (2 ^ 63) then Some m else None)
past_limit m v u e h = let on = decimal_grows v u in grind (arith, nat_tests)
