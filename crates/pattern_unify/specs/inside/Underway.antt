-- Unification that is underway.
use Rattle.std.specs.Prelude.{◌≡◌, ℕ, ◌<◌, List, length}
use Rattle.level_terms.specs.Graph.{Graph}
use Rattle.level_terms.specs.Reading.{read}
use Rattle.ref_terms.specs.terms.Term.{Term}
use Rattle.ref_terms.specs.unification.Problem.{Binding, Problem}
use Rattle.ref_terms.specs.unification.Unification.{unify}
use Rattle.pattern_unify.specs.declared.equation.Equation.{Equation}
use Rattle.ref_terms.specs.search.Branch.{bound}
use Rattle.pattern_unify.specs.inside.Equations.{problem_at, AllValidEquations}

-- the work that is left has the problem's answer, with the bindings made so far, which the heap has
pub record IsUnderway (mark : ℕ) (p : Problem) (old new : Graph) (work : List Equation) : Type 0 where
  pub made : List Binding
  pub answer : unify mark p ≡ unify mark (problem_at new work made)
  pub readings : (t : ℕ) (env : ℕ → Term) → t < length old.nodes → read new t env ≡ bound made (read old t env)
  pub valid : AllValidEquations new work
