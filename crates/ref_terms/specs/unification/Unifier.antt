-- Substitutions, and the unifiers among them.
use Rattle.std.specs.Prelude.{◌≡◌, ℕ, ◌<◌, List, [], ◌∷◌, false}
use Rattle.ref_terms.specs.terms.Term.{Term, At, Var}
use Rattle.ref_terms.specs.terms.Index.{ren}
use Rattle.ref_terms.specs.terms.Built.{IsBuilt}
use Rattle.ref_terms.specs.terms.Instance.{inst_all}
use Rattle.ref_terms.specs.terms.Occurs.{has_name}
use Rattle.ref_terms.specs.unification.Problem.{Equation}

-- variables get built terms without names and without free bound indices
pub record IsSubstitution (u : ℕ → Term) : Type 0 where
  pub built : (v : ℕ) → IsBuilt (u v)
  pub closed : (v : ℕ) (f : ℕ → ℕ) → ren f (u v) ≡ u v
  pub nameless : (v x : ℕ) → has_name x (u v) ≡ false

-- a choice of values: a substitution that leaves the frozen variables alone, which are those below the mark m;
-- for mark 0 it is any substitution
pub record IsChoice (m : ℕ) (u : ℕ → Term) : Type 0 where
  pub substitution : IsSubstitution u
  pub frozen : (v : ℕ) → v < m → u v ≡ At (Var v)

-- it makes both sides of each equation equal
abbrev pub IsUnifier : (ℕ → Term) → List Equation → Type 0
IsUnifier u [] = Unit {0}
IsUnifier u (e ∷ es) = (inst_all u e.left ≡ inst_all u e.right) × IsUnifier u es

-- nothing does
abbrev pub HasNoUnifier : (m : ℕ) → List Equation → Type 0
HasNoUnifier m es = (u : ℕ → Term) → IsChoice m u → IsUnifier u es → ⊥
