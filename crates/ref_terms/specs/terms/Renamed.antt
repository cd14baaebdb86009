-- Renaming variables.
use Rattle.std.specs.Prelude.{ℕ}
use Rattle.ref_terms.specs.terms.Term.{Head, Con, Int, Str, Name, Bound, Var, Term, Lam, At, App}

-- a head with its variable renamed
abbrev pub vars_head : (ℕ → ℕ) → Head → Head
vars_head p (Con c) = Con c
vars_head p (Int n) = Int n
vars_head p (Str s) = Str s
vars_head p (Name n) = Name n
vars_head p (Bound i) = Bound i
vars_head p (Var v) = Var (p v)

-- a term with its variables renamed
abbrev pub vars : (ℕ → ℕ) → Term → Term
vars p (Lam b) = Lam (vars p b)
vars p (At h) = At (vars_head p h)
vars p (App f a) = App (vars p f) (vars p a)
