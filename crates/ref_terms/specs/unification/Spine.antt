-- The head and the arguments of a term.
use Rattle.std.specs.Prelude.{List, [], ◌∷◌, ◌++◌, Option, Some, None}
use Rattle.ref_terms.specs.terms.Term.{Head, Term, Lam, At, App}
use Rattle.ref_terms.specs.terms.Apply.{apply}

-- the arguments, from left to right
abbrev pub args_of : Term → List Term
args_of (Lam b) = []
args_of (At h) = []
args_of (App f a) = args_of f ++ a ∷ []

-- the head, or none where an abstraction is at the head
abbrev pub head_of : Term → Option Head
head_of (Lam b) = None
head_of (At h) = Some h
head_of (App f a) = head_of f

-- a term applied to a list of terms
abbrev pub apply_all : Term → List Term → Term
apply_all t [] = t
apply_all t (a ∷ xs) = apply_all (apply t a) xs
