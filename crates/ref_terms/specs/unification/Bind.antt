-- Binding a variable.
use Rattle.std.specs.Prelude.{ℕ, suc, List, ◌∷◌, map}
use Rattle.ref_terms.specs.terms.Term.{Term}
use Rattle.ref_terms.specs.terms.Instance.{inst}
use Rattle.ref_terms.specs.unification.Problem.{Equation, Problem}

-- both sides with the value u in place of the variable v
abbrev pub inst_equation : ℕ → Term → Equation → Equation
inst_equation v u e = record e { left = inst v u e.left; right = inst v u e.right }

-- the variable v gets the value u, at once in all equations that are left
abbrev pub bind : ℕ → Term → List Equation → Problem → Problem
bind v u es p = record p { equations = map (inst_equation v u) es; bindings = record { variable = v; value = u } ∷ p.bindings }

-- the same where the value has the next variable
abbrev pub bind_fresh : ℕ → Term → List Equation → Problem → Problem
bind_fresh v u es p = record (bind v u es p) { next_var = suc p.next_var }
