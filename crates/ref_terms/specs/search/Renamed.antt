-- Branches with their variables renamed; names, numbers of constraints, barriers and paths stay.
use Rattle.std.specs.Prelude.{ℕ, map}
use Rattle.ref_terms.specs.terms.Renamed.{vars}
use Rattle.ref_terms.specs.search.Assumption.{Assumption}
use Rattle.ref_terms.specs.search.Branch.{Goal, Constraint, Branch}
use Rattle.ref_terms.specs.search.State.{Candidate, of_program, of_assumption, Alternative, later_clauses, other_side}

-- an assumption with its variables renamed
abbrev pub assumption_vars : (ℕ → ℕ) → Assumption → Assumption
assumption_vars p h = record h { head = vars p h.head; conditions = map (vars p) h.conditions; assumed = vars p h.assumed }

-- a goal with its variables renamed
abbrev pub goal_vars : (ℕ → ℕ) → Goal → Goal
goal_vars p g = record g { assumptions = map (assumption_vars p) g.assumptions; term = vars p g.term }

-- a constraint with its variables renamed
abbrev pub constraint_vars : (ℕ → ℕ) → Constraint → Constraint
constraint_vars p c = record c { assumptions = map (assumption_vars p) c.assumptions; term = vars p c.term; keys = map (vars p) c.keys }

-- a branch with its variables renamed, the next one too
abbrev pub branch_vars : (ℕ → ℕ) → Branch → Branch
branch_vars p b = record b {
  goals = map (goal_vars p) b.goals;
  store = map (constraint_vars p) b.store;
  query = map (vars p) b.query;
  next_var = p b.next_var;
}

-- a clause to be tried: the variables of a program clause are its own, those of an assumption are the branch's
abbrev pub candidate_vars : (ℕ → ℕ) → Candidate → Candidate
candidate_vars p (of_program i k) = of_program i k
candidate_vars p (of_assumption i h) = of_assumption i (assumption_vars p h)

-- an alternative with its variables renamed
abbrev pub alternative_vars : (ℕ → ℕ) → Alternative → Alternative
alternative_vars p (later_clauses b cs) = later_clauses (branch_vars p b) (map (candidate_vars p) cs)
alternative_vars p (other_side b) = other_side (branch_vars p b)

-- the branch of an alternative
abbrev pub branch_of : Alternative → Branch
branch_of (later_clauses b cs) = b
branch_of (other_side b) = b
