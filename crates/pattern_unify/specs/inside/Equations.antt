-- The equations that are still to be solved, as the rules have them.
use Rattle.std.specs.Prelude.{◌≡◌, ℕ, List, [], ◌∷◌, ◌++◌, map, reverse, length}
use Rattle.level_terms.specs.declared.node.TermId.{TermId}
use Rattle.level_terms.specs.Graph.{Graph}
use Rattle.level_terms.specs.Reading.{read}
use Rattle.level_terms.specs.Valid.{IsValid}
use Rattle.ref_terms.specs.unification.Problem as problem
use Rattle.ref_terms.specs.unification.Problem.{Problem, Binding}
use Rattle.beta_fragment.specs.Names.{names}
use Rattle.pattern_unify.specs.declared.equation.Equation.{Equation}

-- what two nodes read as
abbrev pub equation_at : Graph → Equation → problem.Equation
equation_at g e = record { names = e.depth; left = read g e.left.index names; right = read g e.right.index names }

-- the list of work has the first equation last
abbrev pub equations_at : Graph → List Equation → List problem.Equation
equations_at g work = map (equation_at g) (reverse work)

-- the problem that is left, with the bindings so far: the next variable is the heap's
abbrev pub problem_at : Graph → List Equation → List Binding → Problem
problem_at g work bindings = record { next_var = length g.depths; equations = equations_at g work; bindings = bindings }

-- both sides are valid
abbrev pub IsValidEquation : Graph → Equation → Type 0
IsValidEquation g e = IsValid g e.left.index e.depth × IsValid g e.right.index e.depth

-- all are
abbrev pub AllValidEquations : Graph → List Equation → Type 0
AllValidEquations g [] = Unit {0}
AllValidEquations g (e ∷ work) = IsValidEquation g e × AllValidEquations g work

-- an equation in a heap that gained nodes means what another one meant
pub record IsSameEquation (old new : Graph) (e r : Equation) : Type 0 where
  pub same : equation_at new r ≡ equation_at old e
  pub valid : IsValidEquation new r

-- such an equation is put onto the work, and the heap gained nodes alone
pub record ComesAgain (old new : Graph) (e : Equation) (work later : List Equation) : Type 0 where
  pub next : Equation
  pub same : IsSameEquation old new e next
  pub variables : new.depths ≡ old.depths
  pub pushed : later ≡ work ++ next ∷ []

-- the equations of two lists of nodes, one after the other
abbrev pub arguments_of : (depth : ℕ) → List TermId → List TermId → List Equation
arguments_of depth [] ys = []
arguments_of depth (x ∷ xs) [] = []
arguments_of depth (x ∷ xs) (y ∷ ys) = record { left = x; right = y; depth = depth } ∷ arguments_of depth xs ys
