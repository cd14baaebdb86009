-- Verdicts on a value, as code and reference have them.
use Rattle.std.specs.Prelude.{ℕ, ◌≤◌}
use Rattle.level_terms.specs.Graph.{Graph}
use Rattle.ref_terms.specs.unification.Offence as offence
use Rattle.pattern_unify.specs.Bound.{IsOpen}
use Rattle.pattern_unify.specs.declared.offence.Verdict.{Verdict}
use Rattle.pattern_unify.specs.declared.offence.Verdict.TheVariants.{Fine, Redex, Scope, Itself, Foreign, Dropped}

-- the reference's verdict
abbrev pub verdict_of : Verdict → offence.Verdict
verdict_of Fine = offence.fine
verdict_of Redex = offence.redex
verdict_of Scope = offence.scope
verdict_of Itself = offence.itself
verdict_of Foreign = offence.foreign
verdict_of (Dropped v i n) = offence.dropped v.index i n

-- a variable that loses a position is assignable
abbrev pub DropsAssignable : Graph → (mark : ℕ) → Verdict → Type 0
DropsAssignable g mark (Dropped v i n) = IsOpen g v.index × (mark ≤ v.index)
DropsAssignable g mark Fine = Unit {0}
DropsAssignable g mark Redex = Unit {0}
DropsAssignable g mark Scope = Unit {0}
DropsAssignable g mark Itself = Unit {0}
DropsAssignable g mark Foreign = Unit {0}
