-- The terms and problems of the examples.
use Rattle.std.proofs.Common.{ℕ, List, [], ◌∷◌, Option, Some, true, false}
use Rattle.ref_terms.specs.terms.Term.{Term, At, App, Con, Name, Bound, Var}
use Rattle.ref_terms.specs.unification.Problem.{Equation, Binding, Answer, Solved, Clashed, Faulted, Redex_fault, Pattern_fault, Scope_fault}
use Rattle.ref_terms.specs.unification.Run.{run}

infixl 70 ◌·◌
-- one more argument
abbrev pub ◌·◌ : Term → Term → Term
f · a = App f a

-- variables, and the fresh ones that a run makes
abbrev pub X : Term
X = At (Var 0)

abbrev pub Y : Term
Y = At (Var 1)

abbrev pub Z : Term
Z = At (Var 2)

abbrev pub F : Term
F = At (Var 3)

abbrev pub fresh : Term
fresh = At (Var 10)

abbrev pub fresh_too : Term
fresh_too = At (Var 11)

-- constants
abbrev pub f : Term
f = At (Con 0)

abbrev pub a : Term
a = At (Con 1)

abbrev pub b : Term
b = At (Con 2)

-- names
abbrev pub x : Term
x = At (Name 0)

abbrev pub y : Term
y = At (Name 1)

abbrev pub z : Term
z = At (Name 2)

-- bound indices
abbrev pub i0 : Term
i0 = At (Bound 0)

abbrev pub i1 : Term
i1 = At (Bound 1)

abbrev pub i2 : Term
i2 = At (Bound 2)

-- an equation under so many names
abbrev pub equal : (names : ℕ) → Term → Term → Equation
equal n s t = record { names = n; left = s; right = t }

-- a variable and its value
abbrev pub binds : ℕ → Term → Binding
binds v t = record { variable = v; value = t }

-- the answer to equations, where variables below the mark are frozen
abbrev pub matched : (mark : ℕ) → List Equation → Option Answer
matched m es = run m 100 (record { next_var = 10; equations = es; bindings = [] })

-- the answer to equations
abbrev pub solve : List Equation → Option Answer
solve es = matched 0 es

-- the answer to one equation under the names x, y and z
abbrev pub unified : Term → Term → Option Answer
unified s t = solve (equal 3 s t ∷ [])

-- solved, with this next variable and these bindings, newest first
abbrev pub solved : (next : ℕ) → List Binding → Option Answer
solved k bs = Some (Solved (record { next_var = k; equations = []; bindings = bs }))

-- a clash, and one that is a knot
abbrev pub clash : Option Answer
clash = Some (Clashed false)

abbrev pub knot : Option Answer
knot = Some (Clashed true)

-- the faults
abbrev pub redex_fault : Option Answer
redex_fault = Some (Faulted Redex_fault)

abbrev pub pattern_fault : Option Answer
pattern_fault = Some (Faulted Pattern_fault)

abbrev pub scope_fault : Option Answer
scope_fault = Some (Faulted Scope_fault)
