-- What a turn on the first equation makes of the heap and of the work, by the step that the rules take.
use Rattle.std.specs.Prelude.{◌≡◌, ℕ, ◌<◌, Bool, List, [], ◌∷◌, ◌++◌, length}
use Rattle.level_terms.specs.Graph.{Graph}
use Rattle.level_terms.specs.Reading.{read}
use Rattle.ref_terms.specs.terms.Term.{Term}
use Rattle.ref_terms.specs.search.Fault.{of_unification}
use Rattle.ref_terms.specs.unification.Problem.{Binding, UnifyFault, Step, Goes, Ends, Clashed, Faulted}
use Rattle.ref_terms.specs.unification.Shape.{Shape}
use Rattle.ref_terms.specs.unification.Rules.{rule}
use Rattle.pattern_unify.specs.declared.equation.Equation.{Equation}
use Rattle.pattern_unify.specs.declared.equation.Turn.{Turn}
use Rattle.pattern_unify.specs.declared.equation.Turn.TheVariants as turn
use Rattle.ref_terms.specs.search.Branch.{bound}
use Rattle.pattern_unify.specs.inside.Equations.{equation_at, equations_at, problem_at, AllValidEquations}

-- the rules go on, whatever the bindings so far: they make some bindings, which the heap has, and the work that is left is theirs
pub record GoesOn (old new : Graph) (step : List Binding → Step) (work : List Equation) : Type 0 where
  pub made : List Binding
  pub steps : (bs : List Binding) → step bs ≡ Goes (problem_at new work (made ++ bs))
  pub readings : (t : ℕ) (env : ℕ → Term) → t < length old.nodes → read new t env ≡ bound made (read old t env)
  pub valid : AllValidEquations new work

-- the rule for an equation whose sides have these shapes, before the work that is left
abbrev pub rule_at : (mark : ℕ) → Graph → Equation → List Equation → (left right : Shape) → List Binding → Step
rule_at mark g e work left right bs = rule mark left right (equation_at g e) (equations_at g work) (problem_at g (work ++ e ∷ []) bs)

-- the turn is the step
abbrev pub IsTurn : (old new : Graph) (step : List Binding → Step) (work : List Equation) → Turn → Type 0
IsTurn old new step work turn.Goes = GoesOn old new step work
IsTurn old new step work turn.Clash = (knot : Bool) × ((bs : List Binding) → step bs ≡ Ends (Clashed knot))
IsTurn old new step work (turn.Fault f) = (u : UnifyFault) × (f ≡ of_unification u) × ((bs : List Binding) → step bs ≡ Ends (Faulted u))
