-- Equations of nodes.
use Rattle.std.specs.Prelude.{◌≡◌, ℕ, ◌<◌, List, [], map, drop, length}
use Rattle.level_terms.specs.Graph.{Graph}
use Rattle.level_terms.specs.Growth.{Grows}
use Rattle.level_terms.specs.Reading.{read}
use Rattle.level_terms.specs.Valid.{IsValid}
use Rattle.level_terms.specs.declared.node.Change.{Change}
use Rattle.beta_fragment.specs.Names.{names}
use Rattle.ref_terms.specs.terms.Term.{Term}
use Rattle.ref_terms.specs.unification.Problem as problem
use Rattle.ref_terms.specs.unification.Problem.{Problem, Binding}
use Rattle.ref_terms.specs.unification.Unification.{unify}
use Rattle.ref_terms.specs.search.Branch.{bound, bound_equation}
use Rattle.ref_terms.specs.search.Used.{Every}
use Rattle.pattern_unify.specs.Bound.{LeavesFrozen}
use Rattle.sequent_rules.specs.declared.matching.Equation.{Equation}

-- what both sides read as
abbrev pub equation_in : Graph → (depth : ℕ) → Equation → problem.Equation
equation_in g depth e = record { names = depth; left = read g e.left.index names; right = read g e.right.index names }

-- so one by one
abbrev pub equations_in : Graph → (depth : ℕ) → List Equation → List problem.Equation
equations_in g depth es = map (equation_in g depth) es

-- the problem of all
abbrev pub problem_of_all : Graph → (depth : ℕ) → List Equation → Problem
problem_of_all g depth es = record { next_var = length g.depths; equations = equations_in g depth es; bindings = [] }

-- both sides of each are valid
abbrev pub AllEquationsValid : Graph → (depth : ℕ) → List Equation → Type 0
AllEquationsValid g depth es = Every (λ e. IsValid g e.left.index depth × IsValid g e.right.index depth) es

-- those from place i on are left, under the bindings so far, which the heap has
pub record IsSolving (mark depth : ℕ) (es : List Equation) (old new : Graph) (before after : List Change) (i : ℕ) : Type 0 where
  pub made : List Binding
  pub readings : (t : ℕ) (env : ℕ → Term) → t < length old.nodes → read new t env ≡ bound made (read old t env)
  pub answer : unify mark (problem_of_all old depth es)
      ≡ unify mark (record { next_var = length new.depths; equations = map (bound_equation made) (equations_in old depth (drop i es)); bindings = made })
  pub frozen : LeavesFrozen mark old new
  pub grows : Grows old new before after
