-- Problems that differ in the numbers of their variables.
use Rattle.std.specs.Prelude.{◌≡◌, ℕ, nat_eq, nat_lt, map}
use Rattle.ref_terms.specs.terms.Renamed.{vars}
use Rattle.ref_terms.specs.unification.Problem.{Equation, Binding, Problem, Answer, Solved, Clashed, Faulted, Step, Goes, Ends}

-- an equation with its variables renamed
abbrev pub equation_vars : (ℕ → ℕ) → Equation → Equation
equation_vars p e = record { names = e.names; left = vars p e.left; right = vars p e.right }

-- a binding with its variables renamed
abbrev pub binding_vars : (ℕ → ℕ) → Binding → Binding
binding_vars p b = record { variable = p b.variable; value = vars p b.value }

-- a problem with its variables renamed, the next one too
abbrev pub renamed : (ℕ → ℕ) → Problem → Problem
renamed p q = record { next_var = p q.next_var; equations = map (equation_vars p) q.equations; bindings = map (binding_vars p) q.bindings }

-- an answer with its variables renamed
abbrev pub renamed_answer : (ℕ → ℕ) → Answer → Answer
renamed_answer p (Solved q) = Solved (renamed p q)
renamed_answer p (Clashed k) = Clashed k
renamed_answer p (Faulted f) = Faulted f

-- a step with its variables renamed
abbrev pub renamed_step : (ℕ → ℕ) → Step → Step
renamed_step p (Goes q) = Goes (renamed p q)
renamed_step p (Ends a) = Ends (renamed_answer p a)

-- different variables stay different, frozen ones stay frozen
pub record IsRenaming (p : ℕ → ℕ) (m m' : ℕ) : Type 0 where
  pub one_to_one : (a b : ℕ) → nat_eq (p a) (p b) ≡ nat_eq a b
  pub frozen : (v : ℕ) → nat_lt (p v) m' ≡ nat_lt v m
