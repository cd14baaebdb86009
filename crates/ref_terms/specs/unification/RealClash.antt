-- A clash that is no knot means that there is no unifier.
use Rattle.std.specs.Prelude.{◌≡◌, ℕ, ◌≤◌, false, Some, List, [], ◌∷◌}
use Rattle.ref_terms.specs.terms.Term.{Bound, Term}
use Rattle.ref_terms.specs.unification.Spine.{head_of}
use Rattle.ref_terms.specs.unification.Problem.{Equation, Problem, Clashed, Ends}
use Rattle.ref_terms.specs.unification.Rules.{step}
use Rattle.ref_terms.specs.unification.Unification.{unify}
use Rattle.ref_terms.specs.unification.Unifier.{HasNoUnifier}
use Rattle.ref_terms.specs.unification.Proper.{AreProper}

-- no free bound index is at the head
abbrev pub HasNoIndexHead : Term → Type 0
HasNoIndexHead t = (i : ℕ) → head_of t ≡ Some (Bound i) → ⊥

-- nor so on either side of the first equation
abbrev pub FirstHasNoIndexHead : List Equation → Type 0
FirstHasNoIndexHead [] = Unit {0}
FirstHasNoIndexHead (e ∷ es) = HasNoIndexHead e.left × HasNoIndexHead e.right

-- a rule's clash: below a free index a clash of a variable with itself isn't called a knot, though it may have a unifier as a knot may
abbrev pub RealClash : Type 0
RealClash = (m : ℕ) (p : Problem) → FirstHasNoIndexHead p.equations → step m p ≡ Ends (Clashed false) → HasNoUnifier m p.equations

-- the clash of a whole run: the frozen variables are below the next one and the equations are proper, as for most general unifiers,
-- so that no step before the clash loses a unifier
abbrev pub RealClashes : Type 0
RealClashes = (m : ℕ) (p : Problem) → m ≤ p.next_var → AreProper p.next_var p.equations → unify m p ≡ Clashed false → HasNoUnifier m p.equations
