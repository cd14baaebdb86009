-- What the rules of unification look at in a term.
use Rattle.std.specs.Prelude.{ℕ, cond, nat_lt, List, [], ◌∷◌, ◌++◌, Option, Some, None}
use Rattle.ref_terms.specs.terms.Term.{Head, Var, Term, Lam, At, App}
use Rattle.ref_terms.specs.unification.Spine.{args_of, head_of}

-- an abstraction, a stuck redex, a rigid head with its arguments, or an assignable variable with its spine
pub data Shape : Type 0 where
  Abstraction : Shape
  Redex : Shape
  Rigid : Head → List Term → Shape
  Flex : ℕ → List Term → Shape

-- by the head; a variable below the mark m is frozen, and counts as a constant
abbrev pub headed : (m : ℕ) → Option Head → List Term → Shape
headed m None xs = Redex
headed m (Some (Var v)) xs = cond (nat_lt v m) (Rigid (Var v) xs) (Flex v xs)
headed m (Some h) xs = Rigid h xs

-- the shape of a term
abbrev pub shape : (m : ℕ) → Term → Shape
shape m (Lam b) = Abstraction
shape m (At h) = headed m (Some h) []
shape m (App f a) = headed m (head_of f) (args_of f ++ a ∷ [])
