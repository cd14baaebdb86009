-- A branch of the search, and a binding applied to all of it.
use Rattle.std.specs.Prelude.{ℕ, List, [], ◌∷◌, map}
use Rattle.ref_terms.specs.terms.Term.{Term}
use Rattle.ref_terms.specs.terms.Instance.{inst}
use Rattle.ref_terms.specs.unification.Problem.{Binding, Equation}
use Rattle.ref_terms.specs.declared.path.Choice.{Choice}
use Rattle.ref_terms.specs.search.Assumption.{Assumption}

-- a goal: its names are the numbers below `names`, its barrier is a number of alternatives
pub record Goal : Type 0 where
  pub names : ℕ
  pub assumptions : List Assumption
  pub barrier : ℕ
  pub term : Term

-- a suspended goal with its keys
pub record Constraint : Type 0 where
  pub number : ℕ
  pub names : ℕ
  pub assumptions : List Assumption
  pub term : Term
  pub keys : List Term

-- a rule and the constraints that it fired on, in the order of its heads
pub record Fired : Type 0 where
  pub rule : ℕ
  pub constraints : List ℕ

-- a branch of the search: constraints in order of declaration, numbered by it; choices newest first
pub record Branch : Type 0 where
  pub goals : List Goal
  pub store : List Constraint
  pub fired : List Fired
  pub query : List Term
  pub next_var : ℕ
  pub declared : ℕ
  pub path : List Choice

-- bindings applied to a term; they stand newest first, and the oldest is applied first
abbrev pub bound : List Binding → Term → Term
bound [] t = t
bound (b ∷ older) t = inst b.variable b.value (bound older t)

-- bindings applied to an equation
abbrev pub bound_equation : List Binding → Equation → Equation
bound_equation bs e = record e { left = bound bs e.left; right = bound bs e.right }

-- bindings applied to an assumption; its scope and its parameters stay
abbrev pub bound_assumption : List Binding → Assumption → Assumption
bound_assumption bs h = record h { head = bound bs h.head; conditions = map (bound bs) h.conditions; assumed = bound bs h.assumed }

-- bindings applied to a goal
abbrev pub bound_goal : List Binding → Goal → Goal
bound_goal bs g = record g { assumptions = map (bound_assumption bs) g.assumptions; term = bound bs g.term }

-- bindings applied to a constraint and its keys
abbrev pub bound_constraint : List Binding → Constraint → Constraint
bound_constraint bs c = record c { assumptions = map (bound_assumption bs) c.assumptions; term = bound bs c.term; keys = map (bound bs) c.keys }

-- the branch after a success of unification
abbrev pub bound_branch : List Binding → (next : ℕ) → Branch → Branch
bound_branch bs next b = record b {
  goals = map (bound_goal bs) b.goals;
  store = map (bound_constraint bs) b.store;
  query = map (bound bs) b.query;
  next_var = next;
}

-- the branch with these goals
abbrev pub with_goals : List Goal → Branch → Branch
with_goals gs b = record b { goals = gs }

-- other goals of the same place
abbrev pub goals_at : Goal → List Term → List Goal
goals_at g ts = map (λ t. record g { term = t }) ts
