-- Integers and expressions, where variables are renamed.
use Rattle.std.proofs.Common.{◌≡◌, ℕ, cond, ℤ, refl, ap, ap₂, ◌∙◌, Option, Some, None}
use Rattle.ref_terms.specs.terms.Term.{Term, Lam, At, App, Con, Int, Str, Name, Bound, Var}
use Rattle.ref_terms.specs.terms.Renamed.{vars}
use Rattle.ref_terms.specs.unification.Shape.{Shape, Abstraction, Redex, Rigid, Flex, shape}
use Rattle.ref_terms.specs.search.Reserved.{word_of}
use Rattle.ref_terms.specs.search.Fault.{Judged, Bad}
use Rattle.ref_terms.specs.search.Arithmetic.{integer_of, shape_fault, judged_integer, operand, judged_less, less, is_operator, combined, value_of}
use Rattle.ref_terms.specs.declared.fault.Fault.TheVariants.{Number}
use Rattle.ref_terms.proofs.search.TermVars.{shape_vars, shape-vars}

module _ (p : ℕ → ℕ) where
  integer-vars : (t : Term) → integer_of (vars p t) ≡ integer_of t
  integer-vars (At (Int z)) = refl
  integer-vars (At (Con c)) = refl
  integer-vars (At _) = refl
  integer-vars (Lam b) = refl
  integer-vars (App f a) = refl

  shape_fault-vars : (s : Shape) → shape_fault (shape_vars p s) ≡ shape_fault s
  shape_fault-vars Abstraction = refl
  shape_fault-vars Redex = refl
  shape_fault-vars (Rigid h xs) = refl
  shape_fault-vars (Flex v xs) = refl

  judged_integer-vars : (o : Option ℤ) (t : Term) → judged_integer o (vars p t) ≡ judged_integer o t
  judged_integer-vars (Some z) t = refl
  judged_integer-vars None t = ap Bad (ap shape_fault (shape-vars p t) ∙ shape_fault-vars (shape 0 t))

  operand-vars : (t : Term) → operand (vars p t) ≡ operand t
  operand-vars t = ap (λ o. judged_integer o (vars p t)) (integer-vars t) ∙ judged_integer-vars (integer_of t) t

  pub less-vars : (a b : Term) → less (vars p a) (vars p b) ≡ less a b
  less-vars a b = ap₂ judged_less (operand-vars a) (operand-vars b)

  pub value-vars : (t : Term) → value_of (vars p t) ≡ value_of t
  value-vars (App (App (At (Con c)) a) b) = ap₂ (λ (x y : Judged ℤ). cond (is_operator (word_of c)) (combined (word_of c) x y) (Bad Number)) (value-vars a) (value-vars b)
  value-vars (App (App (At (Int c)) a) b) = operand-vars (App (App (At (Int c)) a) b)
  value-vars (App (App (At (Str c)) a) b) = operand-vars (App (App (At (Str c)) a) b)
  value-vars (App (App (At (Name c)) a) b) = operand-vars (App (App (At (Name c)) a) b)
  value-vars (App (App (At (Bound c)) a) b) = operand-vars (App (App (At (Bound c)) a) b)
  value-vars (App (App (At (Var c)) a) b) = operand-vars (App (App (At (Var c)) a) b)
  value-vars (App (App (Lam f) a) b) = operand-vars (App (App (Lam f) a) b)
  value-vars (App (App (App f g) a) b) = operand-vars (App (App (App f g) a) b)
  value-vars (App (At h) b) = operand-vars (App (At h) b)
  value-vars (App (Lam f) b) = operand-vars (App (Lam f) b)
  value-vars (At h) = operand-vars (At h)
  value-vars (Lam b) = operand-vars (Lam b)
