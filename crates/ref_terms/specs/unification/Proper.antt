-- Equations whose terms, names and variables are in use.
use Rattle.std.specs.Prelude.{◌≡◌, ℕ, ◌≤◌, false, List, [], ◌∷◌}
use Rattle.ref_terms.specs.terms.Term.{Term}
use Rattle.ref_terms.specs.terms.Index.{ren}
use Rattle.ref_terms.specs.terms.Occurs.{occurs, has_name}
use Rattle.ref_terms.specs.unification.Problem.{Equation}

-- a side under so many names, where the next variable is this one:
-- no bound index is free, since a spine would count it as a name, and no value can be abstracted over it;
-- all names are among those in scope, so that the next name is fresh; and all variables are below the next one, so that this is
pub record IsSide (next_var names : ℕ) (t : Term) : Type 0 where
  pub closed : (f : ℕ → ℕ) → ren f t ≡ t
  pub scoped : (x : ℕ) → names ≤ x → has_name x t ≡ false
  pub known : (v : ℕ) → next_var ≤ v → occurs v t ≡ false

-- both sides of each equation are
abbrev pub AreProper : (next_var : ℕ) → List Equation → Type 0
AreProper q [] = Unit {0}
AreProper q (e ∷ es) = IsSide q e.names e.left × IsSide q e.names e.right × AreProper q es
