-- Moves of a branch, by what they need.
use Rattle.std.specs.Prelude.{ℕ, suc, ◌-◌, ℤ, Bool, true, false, List, [], ◌∷◌, ◌++◌, length, drop, Option, Some, None}
use Rattle.ref_terms.specs.terms.Term.{Term, Lam, At, Int}
use Rattle.ref_terms.specs.terms.Apply.{apply, open_with}
use Rattle.ref_terms.specs.unification.Problem.{Answer, Solved, Clashed, Faulted as UnifyFaulted}
use Rattle.ref_terms.specs.search.Fault.{of_unification, Judged, Good, Bad}
use Rattle.ref_terms.specs.declared.fault.Fault.{Fault}
use Rattle.ref_terms.specs.declared.fault.Fault.TheVariants.{NotGoal}
use Rattle.ref_terms.specs.search.Program.{Program, modes_of}
use Rattle.ref_terms.specs.search.Assumption.{Assumption}
use Rattle.ref_terms.specs.search.Branch.{Goal, Branch, bound_branch, with_goals}
use Rattle.ref_terms.specs.search.State.{Candidate, Alternative, later_clauses, Moved, Ended, Move, goes_on, faults}
use Rattle.ref_terms.specs.search.Resolve.{Unification, Resolved, resolve}
use Rattle.ref_terms.specs.search.Candidates.{candidates}

-- the branch fails, and nothing of it is kept
abbrev pub fails : List Alternative → Move
fails alternatives = record { event = Moved; state = Ended None alternatives }

-- cut: the oldest alternatives stay, as many as the barrier says
abbrev pub cut_to : ℕ → List Alternative → List Alternative
cut_to barrier alternatives = drop (length alternatives - barrier) alternatives

-- the body of an abstraction with the term in place of its bound name
abbrev pub applied_whole : Term → Term → Term
applied_whole (Lam b) a = open_with b a
applied_whole f a = apply f a

-- a built-in that is a question
abbrev pub goes_or_fails : Bool → Branch → List Alternative → Move
goes_or_fails true branch alternatives = goes_on branch alternatives
goes_or_fails false branch alternatives = fails alternatives

-- what follows from an answer of unification: the branch under the bindings, a failure or a fault
abbrev pub after_unifying : Branch → List Alternative → Answer → Move
after_unifying branch alternatives (Solved q) = goes_on (bound_branch q.bindings q.next_var branch) alternatives
after_unifying branch alternatives (Clashed knot) = fails alternatives
after_unifying branch alternatives (UnifyFaulted f) = faults (of_unification f)

-- unification of two terms under so many names; the branch has the goals that are left
abbrev pub unifies : Unification → (names : ℕ) → Term → Term → Branch → List Alternative → Move
unifies unify names s t branch alternatives = after_unifying branch alternatives (unify 0 (record { next_var = branch.next_var; equations = record { names = names; left = s; right = t } ∷ []; bindings = [] }))

-- the value of an expression, with the variable as the left side
abbrev pub evaluates : Unification → (names : ℕ) → Term → Judged ℤ → Branch → List Alternative → Move
evaluates unify names x (Good z) branch alternatives = unifies unify names x (At (Int z)) branch alternatives
evaluates unify names x (Bad e) branch alternatives = faults e

-- a question that may be a fault
abbrev pub compares : Judged Bool → Branch → List Alternative → Move
compares (Good c) branch alternatives = goes_or_fails c branch alternatives
compares (Bad e) branch alternatives = faults e

-- the new assumptions stand before the old ones, for this goal alone
abbrev pub assumes : Goal → Term → Branch → List Goal → List Alternative → Judged (List Assumption) → Move
assumes goal t branch rest alternatives (Good hs) = goes_on (with_goals (record goal { assumptions = hs ++ goal.assumptions; term = t } ∷ rest) branch) alternatives
assumes goal t branch rest alternatives (Bad e) = faults e

-- the constraint goes last into the store; keys that are no list are a fault
abbrev pub suspends : Goal → Term → Branch → List Goal → List Alternative → Option (List Term) → Move
suspends goal t branch rest alternatives None = faults NotGoal
suspends goal t branch rest alternatives (Some keys) = goes_on (record branch {
  goals = rest;
  store = branch.store ++ record { number = suc branch.declared; names = goal.names; assumptions = goal.assumptions; term = t; keys = keys } ∷ [];
  declared = suc branch.declared;
}) alternatives

-- the branch at the call becomes an alternative where clauses are left
abbrev pub with_later : Branch → List Candidate → List Alternative → List Alternative
with_later branch [] alternatives = alternatives
with_later branch (c ∷ cs) alternatives = later_clauses branch (c ∷ cs) ∷ alternatives

-- what follows from resolution: the branch, with the clauses that are left as an alternative
abbrev pub enters : Branch → List Alternative → Option (Judged Resolved) → Move
enters branch alternatives None = fails alternatives
enters branch alternatives (Some (Good r)) = goes_on r.branch (with_later branch r.later alternatives)
enters branch alternatives (Some (Bad e)) = faults e

-- a call, unless its constant is no predicate or has another number of arguments
abbrev pub calls : Unification → Program → ℕ → Branch → Goal → List Goal → List Alternative → Option Fault → Move
calls unify program c branch goal rest alternatives (Some e) = faults e
calls unify program c branch goal rest alternatives None = enters branch alternatives (resolve unify (modes_of program c) branch goal rest (length alternatives) (candidates program c goal.assumptions))
