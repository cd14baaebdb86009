-- What is left of a list of equations, once its first ones are solved.
use Rattle.std.specs.Prelude.{ℕ, List, map, ◌++◌}
use Rattle.ref_terms.specs.unification.Problem.{Equation, Binding, Problem, Answer, Solved, Clashed, Faulted}
use Rattle.ref_terms.specs.unification.Unification.{unify}
use Rattle.ref_terms.specs.search.Branch.{bound_equation}

-- the equations that come later, under the bindings that a problem has
abbrev pub later : List Equation → Problem → List Equation
later more p = map (bound_equation p.bindings) more

-- the problem that they are, once the first ones are solved, behind older bindings
abbrev pub rest : List Equation → List Binding → Problem → Problem
rest more older q = record { next_var = q.next_var; equations = later more q; bindings = q.bindings ++ older }

-- the answer to all equations, by that to the first ones
abbrev pub continued : List Equation → List Binding → ℕ → Answer → Answer
continued more older m (Solved q) = unify m (rest more older q)
continued more older m (Clashed k) = Clashed k
continued more older m (Faulted f) = Faulted f
