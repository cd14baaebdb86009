-- Replacing variables by their values.
use Rattle.std.specs.Prelude.{ℕ, cond}
use Rattle.ref_terms.specs.terms.Term.{Head, Var, Term, At}
use Rattle.ref_terms.specs.terms.Apply.{fill}
use Rattle.ref_terms.specs.terms.Occurs.{is_variable}

-- a value for one variable alone
abbrev pub only : ℕ → Term → Head → Term
only v u h = cond (is_variable v h) u (At h)

-- the term with the value u in place of the variable v, rebuilt: a stuck redex whose argument becomes ready reduces
abbrev pub inst : ℕ → Term → Term → Term
inst v u t = fill (only v u) t

-- a value for each variable
abbrev pub valued : (ℕ → Term) → Head → Term
valued u (Var v) = u v
valued u h = At h

-- the term with the value of each variable in its place, all at once
abbrev pub inst_all : (ℕ → Term) → Term → Term
inst_all u t = fill (valued u) t
