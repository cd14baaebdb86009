-- The rules of unification. Variables below the mark m are frozen; e is the first equation of the problem p, and es are the others.
use Rattle.std.specs.Prelude.{ℕ, suc, Bool, true, false, cond, ◌&&◌, nat_eq, List, [], ◌∷◌, ◌++◌, length, Option, Some, None}
use Rattle.std.specs.Ordering.{int_eq}
use Rattle.ref_terms.specs.terms.Term.{Head, Con, Int, Str, Name, Bound, Var, Term, At}
use Rattle.ref_terms.specs.terms.Apply.{apply}
use Rattle.ref_terms.specs.unification.Spine.{head_of}
use Rattle.ref_terms.specs.unification.Shape.{Shape, Abstraction, Redex, Rigid, Flex, shape}
use Rattle.ref_terms.specs.unification.Pattern.{SpineName, pattern_of, names_of}
use Rattle.ref_terms.specs.unification.Closing.{close_all, keeping}
use Rattle.ref_terms.specs.unification.Offence.{Verdict, fine, redex, scope, itself, foreign, dropped, offence}
use Rattle.ref_terms.specs.unification.Problem.{Equation, Problem, Redex_fault, Pattern_fault, Scope_fault, Solved, Clashed, Faulted, Step, Goes, Ends}
use Rattle.ref_terms.specs.unification.Bind.{bind, bind_fresh}
use Rattle.ref_terms.specs.unification.Positions.{agreeing, shared, positions_of, all_but}

-- whether two rigid heads are one
abbrev pub head_eq : Head → Head → Bool
head_eq (Con a) (Con b) = nat_eq a b
head_eq (Int a) (Int b) = int_eq a b
head_eq (Str a) (Str b) = nat_eq a b
head_eq (Name a) (Name b) = nat_eq a b
head_eq (Bound a) (Bound b) = nat_eq a b
head_eq (Var a) (Var b) = nat_eq a b
head_eq _ _ = false

-- the equations of the arguments, from left to right
abbrev pub equations_of : (names : ℕ) → List Term → List Term → List Equation
equations_of n (s ∷ ss) (t ∷ ts) = record { names = n; left = s; right = t } ∷ equations_of n ss ts
equations_of n _ _ = []

-- two rigid heads: the arguments have to be equal
abbrev pub two_rigid : Head → List Term → Head → List Term → Equation → List Equation → Problem → Step
two_rigid h xs k ys e es p = cond (head_eq h k && nat_eq (length xs) (length ys))
    (Goes (record p { equations = equations_of e.names xs ys ++ es }))
    (Ends (Clashed false))

-- the variable v on both sides: it keeps the positions at which both spines agree
abbrev pub same_variable : (v : ℕ) → List SpineName → List SpineName → List Equation → Problem → Step
same_variable v xs ys es p = cond (nat_eq (length xs) (length ys))
    (Goes (bind_fresh v (keeping (length xs) (agreeing 0 xs ys) p.next_var) es p))
    (Ends (Clashed false))

-- two variables: both become a fresh one over the names that they share
abbrev pub two_variables : (v w : ℕ) → List SpineName → List SpineName → List Equation → Problem → Step
two_variables v w xs ys es p =
    let first = bind_fresh v (keeping (length xs) (shared 0 xs ys) p.next_var) es p in
    Goes (bind w (keeping (length ys) (positions_of 0 xs ys) p.next_var) first.equations first)

-- whether a clash of a variable with itself is a knot
abbrev pub headed_by_name : Option Head → Bool
headed_by_name (Some (Name n)) = true
headed_by_name _ = false

-- the variable v with the names ns, against the term t: where a position is dropped, the equation comes again
abbrev pub by_verdict : (v : ℕ) → (ns : List ℕ) → (t : Term) → Equation → List Equation → Problem → Verdict → Step
by_verdict v ns t e es p fine = Goes (bind v (close_all ns t) es p)
by_verdict v ns t e es p redex = Ends (Faulted Redex_fault)
by_verdict v ns t e es p scope = Ends (Faulted Scope_fault)
by_verdict v ns t e es p itself = Ends (Clashed (headed_by_name (head_of t)))
by_verdict v ns t e es p foreign = Ends (Clashed false)
by_verdict v ns t e es p (dropped y i n) = Goes (bind_fresh y (keeping n (all_but i n) p.next_var) (e ∷ es) p)

-- the variable v against the term t, which it doesn't head: its spine has to be a pattern
abbrev pub bind_to : (m v : ℕ) → Option (List SpineName) → (t : Term) → Equation → List Equation → Problem → Step
bind_to m v None t e es p = Ends (Faulted Pattern_fault)
bind_to m v (Some xs) t e es p = by_verdict v (names_of xs) t e es p (offence m v (names_of xs) false t)

-- two assignable variables: where one spine alone is a pattern, its variable is bound
abbrev pub flex_flex : (m v w : ℕ) → Option (List SpineName) → Option (List SpineName) → Equation → List Equation → Problem → Step
flex_flex m v w (Some xs) (Some ys) e es p = cond (nat_eq v w) (same_variable v xs ys es p) (two_variables v w xs ys es p)
flex_flex m v w (Some xs) None e es p = cond (nat_eq v w) (Ends (Faulted Pattern_fault)) (bind_to m v (Some xs) e.right e es p)
flex_flex m v w None q e es p = cond (nat_eq v w) (Ends (Faulted Pattern_fault)) (bind_to m w q e.left e es p)

-- the first rule that applies to these shapes of the sides; the last clause applies both sides to a fresh name
abbrev pub rule : (m : ℕ) → (left right : Shape) → Equation → List Equation → Problem → Step
rule m Redex _ e es p = Ends (Faulted Redex_fault)
rule m Abstraction Redex e es p = Ends (Faulted Redex_fault)
rule m (Rigid h xs) Redex e es p = Ends (Faulted Redex_fault)
rule m (Flex v xs) Redex e es p = Ends (Faulted Redex_fault)
rule m (Rigid h xs) (Rigid k ys) e es p = two_rigid h xs k ys e es p
rule m (Flex v xs) (Rigid k ys) e es p = bind_to m v (pattern_of xs) e.right e es p
rule m (Rigid h xs) (Flex w ys) e es p = bind_to m w (pattern_of ys) e.left e es p
rule m (Flex v xs) (Flex w ys) e es p = flex_flex m v w (pattern_of xs) (pattern_of ys) e es p
rule m _ _ e es p = let x = At (Name e.names) in Goes (record p { equations = record { names = suc e.names; left = apply e.left x; right = apply e.right x } ∷ es })

-- the first equation decides; without one the problem is solved
abbrev pub step_at : (m : ℕ) → List Equation → Problem → Step
step_at m [] p = Ends (Solved p)
step_at m (e ∷ es) p = rule m (shape m e.left) (shape m e.right) e es p

-- one rule
unfoldable pub step : (m : ℕ) → Problem → Step
step m p = step_at m p.equations p
