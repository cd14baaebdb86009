-- What is seen of numbers and expressions.
use Rattle.std.specs.Prelude.{◌≡◌, ℕ, ◌+◌, ◌<◌, ℤ, Option, Some, None, Result, Ok, Err}
use Rattle.level_terms.specs.Graph.{Graph}
use Rattle.level_terms.specs.Reading.{read}
use Rattle.level_terms.specs.Valid.{IsValid}
use Rattle.ref_terms.specs.ending.Measure.{size}
use Rattle.ref_terms.specs.terms.Term.{Term}
use Rattle.ref_terms.specs.search.Arithmetic.{value_of, calculated, combined}
use Rattle.ref_terms.specs.search.Fault.{Judged, Good, Bad}
use Rattle.ref_terms.specs.declared.fault.Fault.{Fault}
use Rattle.ref_terms.specs.declared.fault.Fault.TheVariants.{Number}
use Rattle.ref_terms.specs.declared.reserved.Reserved.{Reserved}
use Rattle.ref_terms.specs.declared.reserved.Reserved.TheVariants as word
use Rattle.beta_fragment.specs.Names.{names}
use Rattle.builtins.specs.declared.number.Operator.{Operator}
use Rattle.builtins.specs.declared.number.Operator.TheVariants.{Plus, Minus, Times}
use Rattle.builtins.specs.declared.expression.Expression.{Expression}
use Rattle.builtins.specs.declared.expression.Expression.TheVariants.{Value, Operation, Wrong}

-- the name of an operator
abbrev pub operator_word : Operator → Reserved
operator_word Plus = word.Plus
operator_word Minus = word.Minus
operator_word Times = word.Times

-- the result of an operator, or none where it is out of range
abbrev pub IsCalculated : Operator → ℤ → ℤ → Option ℤ → Type 0
IsCalculated w a b (Some z) = calculated (Some (operator_word w)) a b ≡ Good z
IsCalculated w a b None = calculated (Some (operator_word w)) a b ≡ Bad Number

-- an integer, or the fault of a term that is none
abbrev pub IsNumber : Judged ℤ → Result ℤ Fault → Type 0
IsNumber j (Ok z) = j ≡ Good z
IsNumber j (Err e) = j ≡ Bad e

-- a term is an operator before two operands, which are less
pub record IsOperation (g : Graph) (depth : ℕ) (u : Term) (w : Operator) (a b : ℕ) : Type 0 where
  pub value : value_of u ≡ combined (Some (operator_word w)) (value_of (read g a names)) (value_of (read g b names))
  pub left : IsValid g a depth
  pub right : IsValid g b depth
  pub less : size (read g a names) + size (read g b names) < size u

-- what is seen of a term is its value, its operator with the operands, or its fault
abbrev pub IsExpression : Graph → (depth : ℕ) → Term → Expression → Type 0
IsExpression g depth u (Value z) = value_of u ≡ Good z
IsExpression g depth u (Operation w a b) = IsOperation g depth u w a.index b.index
IsExpression g depth u (Wrong e) = value_of u ≡ Bad e
