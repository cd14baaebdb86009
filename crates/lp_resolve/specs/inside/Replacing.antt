-- Bound names in the body of an abstraction that is applied or contracted.
use Rattle.std.specs.Prelude.{ℕ, zero, suc, Option, Some}
use Rattle.ref_terms.specs.terms.Eta.{up_partial}

-- what is given in place of index 0, where the other indices are one lower
abbrev pub replaced : (target : Option ℕ) → ℕ → Option ℕ
replaced target zero = target
replaced target (suc n) = Some n

-- the same under so many more abstractions
abbrev pub replacing : (inside : ℕ) → (target : Option ℕ) → ℕ → Option ℕ
replacing zero target = replaced target
replacing (suc inside) target = up_partial (replacing inside target)
