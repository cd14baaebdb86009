-- Problems of unification, and their answers.
use Rattle.std.specs.Prelude.{ℕ, Bool, List}
use Rattle.ref_terms.specs.terms.Term.{Term}

-- two sides, and the number of names in scope, which are the numbers below it
pub record Equation : Type 0 where
  pub names : ℕ
  pub left : Term
  pub right : Term

-- a variable and its value
pub record Binding : Type 0 where
  pub variable : ℕ
  pub value : Term

-- the equations, first one first; the bindings so far, newest first; and a number above all variables in use
pub record Problem : Type 0 where
  pub next_var : ℕ
  pub equations : List Equation
  pub bindings : List Binding

-- a stuck redex, an equation outside the pattern fragment, or a foreign name at a loose place
pub data UnifyFault : Type 0 where
  Redex_fault Pattern_fault Scope_fault : UnifyFault

-- the problem that is left, which has the bindings and no equation; a clash, which may be a knot; or a fault
pub data Answer : Type 0 where
  Solved : Problem → Answer
  Clashed : (knot : Bool) → Answer
  Faulted : UnifyFault → Answer

-- what one rule makes of a problem
pub data Step : Type 0 where
  Goes : Problem → Step
  Ends : Answer → Step
