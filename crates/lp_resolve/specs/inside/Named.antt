-- The symbols of a query are those of a table.
use Rattle.std.specs.Prelude.{ℕ, ◌<◌, List, [], ◌∷◌}
use Rattle.ref_terms.specs.terms.Term.{Head, Con, Int, Str, Name, Bound, Var, Term, Lam, At, App}
use Rattle.lp_resolve.specs.declared.query.Query.{Query}
use Rattle.lp_resolve.specs.declared.query.QueryVar.{QueryVar}
use Rattle.lp_resolve.specs.Trees.{as_term}

-- a head's symbol is one of so many
abbrev pub IsHeadNamed : (count : ℕ) → Head → Type 0
IsHeadNamed count (Con c) = c < count
IsHeadNamed count (Str s) = s < count
IsHeadNamed count (Int z) = Unit {0}
IsHeadNamed count (Name n) = Unit {0}
IsHeadNamed count (Bound i) = Unit {0}
IsHeadNamed count (Var v) = Unit {0}

-- so throughout a term
abbrev pub IsNamed : (count : ℕ) → Term → Type 0
IsNamed count (Lam b) = IsNamed count b
IsNamed count (At h) = IsHeadNamed count h
IsNamed count (App f a) = IsNamed count f × IsNamed count a

-- so of the words of variables
abbrev pub AreVarsNamed : (count : ℕ) → List QueryVar → Type 0
AreVarsNamed count [] = Unit {0}
AreVarsNamed count (v ∷ vars) = (v.name.0 < count) × AreVarsNamed count vars

-- A query whose symbols are among so many.
pub record IsQueryNamed (count : ℕ) (query : Query) : Type 0 where
  pub vars : AreVarsNamed count query.vars
  pub goal : IsNamed count (as_term query.goal)
