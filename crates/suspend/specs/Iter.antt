-- What iteration gives.
use Rattle.std.specs.Prelude.{ℕ}
use denote.Bor.{Bor}
use Rattle.suspend.specs.declared.constraint.Constraint.{Constraint}

-- a number and a reference to its constraint, as contracts see it
abbrev pub shown : {X : Type 0} → ℕ × Bor (Constraint X) → ℕ × Constraint X
shown r = (r.0, r.1.now)
