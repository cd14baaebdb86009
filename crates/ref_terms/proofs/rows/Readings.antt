-- Small runs that tell one reading of the rules from another, on a program without clauses.
use Rattle.std.proofs.Common.{◌≡◌, true, List, [], ◌∷◌, ◌++◌, ℕ, codes, refl}
use Rattle.std.specs.Fmt.{digits}
use Rattle.ref_terms.specs.terms.Term.{Term, Lam, At, App, Str}
use Rattle.ref_terms.specs.terms.Ready.{ready}
use Rattle.ref_terms.specs.unification.Rules.{step}
use Rattle.ref_terms.specs.search.Program.{Program}
use Rattle.ref_terms.specs.search.Next.{next}
use Rattle.ref_terms.proofs.Samples.{constant, variable, bound, table, lines}
use Rattle.ref_terms.proofs.rows.Output.{output}

-- no clauses; the last symbol is a text with a line feed, a quotation mark, a backslash and a tab
abbrev program : Program
program = record { symbols = table ++ codes "p" ∷ codes "X" ∷ (97 ∷ 10 ∷ 34 ∷ 92 ∷ 9 ∷ []) ∷ []; preds = []; clauses = []; rules = [] }

-- a constant of the program
abbrev p : Term
p = constant 25

-- the variable of a query
abbrev x : Term
x = variable 0

-- a constant applied to two terms
abbrev two : ℕ → Term → Term → Term
two c a b = App (App (constant c) a) b

-- what a query without variables writes
abbrev closed_run : Term → List ℕ
closed_run g = output program (record { variables = []; goal = g }) 10 0

-- what a query with the variable X writes
abbrev open_run : Term → List ℕ
open_run g = output program (record { variables = record { name = 26; shown = true } ∷ []; goal = g }) 10 0

-- `declare_constraint p []`: a constraint without keys never wakes
pub no_keys : closed_run (two 17 p (constant 18)) ≡ lines (codes "answer 1" ∷ codes "  delayed [] [] ?- p" ∷ codes "no more" ∷ [])
unfolding step ready next digits
no_keys = refl

-- `declare_constraint true [y\ y]`: an abstraction as a key wakes the constraint at once
pub abstraction_as_key : closed_run (two 17 (constant 0) (two 19 (Lam (bound 0)) (constant 18))) ≡ lines (codes "answer 1" ∷ codes "no more" ∷ [])
unfolding step ready next digits
abstraction_as_key = refl

-- `("a" , X) => true`: the leftmost fault of a hypothetical clause decides
pub string_first : open_run (two 5 (two 3 (At (Str 27)) x) (constant 0)) ≡ lines (codes "fault: not-goal" ∷ [])
unfolding step ready next digits
string_first = refl

-- `(X , "a") => true`: the same, with the variable first
pub variable_first : open_run (two 5 (two 3 x (At (Str 27))) (constant 0)) ≡ lines (codes "fault: flex-clause" ∷ [])
unfolding step ready next digits
variable_first = refl

-- `(p :- X) => true`: the condition of a hypothetical clause isn't looked at
pub condition_unread : open_run (two 5 (two 6 p x) (constant 0)) ≡ lines (codes "answer 1" ∷ codes "  X = ?0" ∷ codes "no more" ∷ [])
unfolding step ready next digits
condition_unread = refl

-- `p :- p` as a goal
pub clause_as_goal : closed_run (two 6 p p) ≡ lines (codes "fault: not-goal" ∷ [])
unfolding step ready next digits
clause_as_goal = refl

-- `+ p` as a goal: a constant of terms is no predicate, whatever its arguments
pub sum_as_goal : closed_run (App (constant 20) p) ≡ lines (codes "fault: unknown" ∷ [])
unfolding step ready next digits
sum_as_goal = refl

-- `, p` as a goal: a reserved name with another number of arguments
pub comma_of_one : closed_run (App (constant 3) p) ≡ lines (codes "fault: arity" ∷ [])
unfolding step ready next digits
comma_of_one = refl

-- `(true ; true) , !`: a cut in the query leaves no alternative
pub cut_in_query : closed_run (two 3 (two 4 (constant 0) (constant 0)) (constant 2)) ≡ lines (codes "answer 1" ∷ codes "no more" ∷ [])
unfolding step ready next digits
cut_in_query = refl

-- `print p , fail ; true`: what was printed stays, also where its branch fails
pub printed_stays : closed_run (two 4 (two 3 (App (constant 15) p) (constant 1)) (constant 0)) ≡ lines (codes "p" ∷ codes "answer 1" ∷ codes "no more" ∷ [])
unfolding step ready next digits
printed_stays = refl

-- `print ((,) p p p)`: an infix constant is printed between its arguments only where it has two
pub comma_of_three : closed_run (App (constant 15) (App (two 3 p p) p)) ≡ lines (codes ", p p p" ∷ codes "answer 1" ∷ codes "no more" ∷ [])
unfolding step ready next digits
comma_of_three = refl

-- `print (p (y\ y) (p X))`: an abstraction and an application stand in brackets inside, and a text numbers its own variables
pub brackets : open_run (App (constant 15) (App (App p (Lam (bound 0))) (App p x))) ≡ lines (codes "p (@0\\ @0) (p ?0)" ∷ codes "answer 1" ∷ codes "  X = ?0" ∷ codes "no more" ∷ [])
unfolding step ready next digits
brackets = refl

-- a string is printed in quotation marks, with four escapes
pub escapes : closed_run (App (constant 15) (At (Str 27))) ≡ lines ((34 ∷ 97 ∷ 92 ∷ 110 ∷ 92 ∷ 34 ∷ 92 ∷ 92 ∷ 92 ∷ 116 ∷ 34 ∷ []) ∷ codes "answer 1" ∷ codes "no more" ∷ [])
unfolding step ready next digits
escapes = refl
