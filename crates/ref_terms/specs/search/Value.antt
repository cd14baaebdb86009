-- What built-in predicates and tests ask of terms.
use Rattle.std.specs.Prelude.{Bool, true, false, ◌&&◌}
use Rattle.ref_terms.specs.terms.Term.{Term, Lam, At, App, Name}
use Rattle.ref_terms.specs.unification.Shape.{Shape, Flex, shape}
use Rattle.ref_terms.specs.unification.Rules.{head_eq}

-- equal terms
abbrev pub term_eq : Term → Term → Bool
term_eq (Lam a) (Lam b) = term_eq a b
term_eq (At h) (At k) = head_eq h k
term_eq (App f a) (App g b) = term_eq f g && term_eq a b
term_eq _ _ = false

-- headed by a variable, by the shape
abbrev pub shape_is_flex : Shape → Bool
shape_is_flex (Flex v ts) = true
shape_is_flex _ = false

-- headed by a variable
abbrev pub is_flex : Term → Bool
is_flex t = shape_is_flex (shape 0 t)

-- a name without arguments
abbrev pub is_bare_name : Term → Bool
is_bare_name (At (Name n)) = true
is_bare_name _ = false
