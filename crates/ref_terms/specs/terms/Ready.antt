-- The arguments that an abstraction takes.
use Rattle.std.specs.Prelude.{Bool, true, false}
use Rattle.ref_terms.specs.terms.Term.{Head, Con, Var, Term, Lam, At, App}

-- a constant, an integer, a string, a name or a bound index
abbrev pub rigid_head : Head → Bool
rigid_head (Var v) = false
rigid_head (Con c) = true
rigid_head _ = true

-- a term with such a head at its front; only the laws on ready terms look into this
unfoldable pub ready : Term → Bool
ready (Lam b) = false
ready (At h) = rigid_head h
ready (App f a) = ready f
