-- The move of the first goal.
use Rattle.std.specs.Prelude.{suc, List, [], ◌∷◌, ◌++◌}
use Rattle.ref_terms.specs.terms.Term.{At, Name}
use Rattle.ref_terms.specs.terms.Apply.{apply}
use Rattle.ref_terms.specs.search.Program.{Program}
use Rattle.ref_terms.specs.search.Lists.{items_of}
use Rattle.ref_terms.specs.search.Formula.{GoalKind, Truth, Failing, Cut, Conjunction, Disjunction, Assuming, ForAll, Exists, Suspending, Unifying, Comparing, Less, IsVariable, IsName, Printing, Evaluating, Applying, Atom, Wrong, goal_kind}
use Rattle.ref_terms.specs.search.Assumption.{assumptions_of}
use Rattle.ref_terms.specs.search.Instance.{variable_under}
use Rattle.ref_terms.specs.search.Value.{term_eq, is_flex, is_bare_name}
use Rattle.ref_terms.specs.search.Arithmetic.{less, value_of}
use Rattle.ref_terms.specs.search.Branch.{Goal, Branch, with_goals, goals_at}
use Rattle.ref_terms.specs.declared.path.Choice.TheVariants.{Left as LeftSide, Right as RightSide}
use Rattle.ref_terms.specs.search.State.{Alternative, other_side, Printed, Running, Move, goes_on, faults}
use Rattle.ref_terms.specs.search.Resolve.{Unification}
use Rattle.ref_terms.specs.search.Candidates.{call_fault}
use Rattle.ref_terms.specs.texts.Text.{term_parts, top}
use Rattle.ref_terms.specs.texts.Numbering.{text_of}
use Rattle.ref_terms.specs.search.BranchMove.{fails, cut_to, applied_whole, goes_or_fails, unifies, evaluates, compares, assumes, suspends, calls}

-- the move of the goal g of this kind; gs are the goals after it
abbrev pub kind_move : Unification → Program → Branch → Goal → List Goal → List Alternative → GoalKind → Move
kind_move unify program branch goal rest alternatives Truth = goes_on (with_goals rest branch) alternatives
kind_move unify program branch goal rest alternatives Failing = fails alternatives
kind_move unify program branch goal rest alternatives Cut = goes_on (with_goals rest branch) (cut_to goal.barrier alternatives)
kind_move unify program branch goal rest alternatives (Conjunction s t) = goes_on (with_goals (goals_at goal (s ∷ t ∷ []) ++ rest) branch) alternatives
kind_move unify program branch goal rest alternatives (Disjunction s t) = goes_on (record branch { goals = goals_at goal (s ∷ []) ++ rest; path = LeftSide ∷ branch.path })
    (other_side (record branch { goals = goals_at goal (t ∷ []) ++ rest; path = RightSide ∷ branch.path }) ∷ alternatives)
kind_move unify program branch goal rest alternatives (Assuming d t) = assumes goal t branch rest alternatives (assumptions_of goal.names d)
kind_move unify program branch goal rest alternatives (ForAll f) = goes_on (with_goals (record goal { names = suc goal.names; term = apply f (At (Name goal.names)) } ∷ rest) branch) alternatives
kind_move unify program branch goal rest alternatives (Exists f) = goes_on (record branch { goals = goals_at goal (applied_whole f (variable_under goal.names branch.next_var) ∷ []) ++ rest; next_var = suc branch.next_var }) alternatives
kind_move unify program branch goal rest alternatives (Suspending t k) = suspends goal t branch rest alternatives (items_of k)
kind_move unify program branch goal rest alternatives (Unifying s t) = unifies unify goal.names s t (with_goals rest branch) alternatives
kind_move unify program branch goal rest alternatives (Comparing s t) = goes_or_fails (term_eq s t) (with_goals rest branch) alternatives
kind_move unify program branch goal rest alternatives (IsVariable t) = goes_or_fails (is_flex t) (with_goals rest branch) alternatives
kind_move unify program branch goal rest alternatives (IsName t) = goes_or_fails (is_bare_name t) (with_goals rest branch) alternatives
kind_move unify program branch goal rest alternatives (Evaluating x e) = evaluates unify goal.names x (value_of e) (with_goals rest branch) alternatives
kind_move unify program branch goal rest alternatives (Less s t) = compares (less s t) (with_goals rest branch) alternatives
kind_move unify program branch goal rest alternatives (Printing t) = record { event = Printed (text_of (term_parts program.symbols t top 0) ++ 10 ∷ []); state = Running (with_goals rest branch) alternatives }
kind_move unify program branch goal rest alternatives (Applying f a r) = unifies unify goal.names (applied_whole f a) r (with_goals rest branch) alternatives
kind_move unify program branch goal rest alternatives (Atom c ts) = calls unify program c branch goal rest alternatives (call_fault program c ts goal.assumptions)
kind_move unify program branch goal rest alternatives (Wrong e) = faults e

-- the first goal, with the goals after it
abbrev pub goal_move : Unification → Program → Branch → Goal → List Goal → List Alternative → Move
goal_move unify program branch goal rest alternatives = kind_move unify program branch goal rest alternatives (goal_kind goal.term)
