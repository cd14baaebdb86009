-- Whether a variable or a name stands in a term.
use Rattle.std.specs.Prelude.{ℕ, Bool, false, ◌||◌, nat_eq}
use Rattle.ref_terms.specs.terms.Term.{Head, Name, Var, Term, Lam, At, App}

-- this variable
abbrev pub is_variable : ℕ → Head → Bool
is_variable v (Var w) = nat_eq v w
is_variable v _ = false

-- it stands somewhere in the term
abbrev pub occurs : ℕ → Term → Bool
occurs v (Lam b) = occurs v b
occurs v (At h) = is_variable v h
occurs v (App f a) = occurs v f || occurs v a

-- this name
abbrev pub is_name : ℕ → Head → Bool
is_name x (Name n) = nat_eq x n
is_name x _ = false

-- it stands somewhere in the term
abbrev pub has_name : ℕ → Term → Bool
has_name x (Lam b) = has_name x b
has_name x (At h) = is_name x h
has_name x (App f a) = has_name x f || has_name x a
