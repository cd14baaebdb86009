-- The variables in use in a branch.
use Rattle.std.specs.Prelude.{◌≡◌, ℕ, ◌≤◌, false, List, [], ◌∷◌}
use Rattle.ref_terms.specs.terms.Term.{Term}
use Rattle.ref_terms.specs.terms.Occurs.{occurs}
use Rattle.ref_terms.specs.search.Assumption.{Assumption}
use Rattle.ref_terms.specs.search.Branch.{Goal, Constraint, Branch}

-- each item is so
abbrev pub Every : {A : Type 0} → (A → Type 0) → List A → Type 0
Every P [] = Unit {0}
Every P (a ∷ xs) = P a × Every P xs

-- no variable from the next one on stands in the term
abbrev pub UsesBelow : (next_var : ℕ) → Term → Type 0
UsesBelow q t = (v : ℕ) → q ≤ v → occurs v t ≡ false

-- nor in an assumption
abbrev pub AssumptionBelow : (next_var : ℕ) → Assumption → Type 0
AssumptionBelow q h = UsesBelow q h.head × Every (UsesBelow q) h.conditions × UsesBelow q h.assumed

-- nor in a goal
abbrev pub GoalBelow : (next_var : ℕ) → Goal → Type 0
GoalBelow q g = Every (AssumptionBelow q) g.assumptions × UsesBelow q g.term

-- nor in a constraint
abbrev pub ConstraintBelow : (next_var : ℕ) → Constraint → Type 0
ConstraintBelow q c = Every (AssumptionBelow q) c.assumptions × UsesBelow q c.term × Every (UsesBelow q) c.keys

-- all variables in use in a branch are below its next one
abbrev pub BranchBelow : Branch → Type 0
BranchBelow b = Every (GoalBelow b.next_var) b.goals × Every (ConstraintBelow b.next_var) b.store × Every (UsesBelow b.next_var) b.query
