-- The moves of built-ins.
use Rattle.std.specs.Prelude.{◌≡◌, List}
use Rattle.ref_terms.specs.terms.Term.{Term}
use Rattle.ref_terms.specs.search.Formula.{reserved_goal}
use Rattle.ref_terms.specs.search.Program.{Program}
use Rattle.ref_terms.specs.search.Branch.{Goal, Branch, with_goals}
use Rattle.ref_terms.specs.search.State.{Alternative, Printed, Running, Move, faults}
use Rattle.ref_terms.specs.search.Resolve.{Unification}
use Rattle.ref_terms.specs.search.BranchMove.{unifies, goes_or_fails}
use Rattle.ref_terms.specs.search.GoalMove.{kind_move}
use Rattle.goal_form.specs.Builtins.{builtin_word}
use Rattle.goal_form.specs.declared.builtin.Builtin.{Builtin}
use Rattle.builtins.specs.Outcome.{Outcome, Equates, Tells, Prints, Breaks, outcome, line_of}

-- the move by what a goal comes to
abbrev pub outcome_move : Unification → Program → Branch → Goal → List Goal → List Alternative → Outcome → Move
outcome_move unify program branch goal rest alternatives (Equates s t) = unifies unify goal.names s t (with_goals rest branch) alternatives
outcome_move unify program branch goal rest alternatives (Tells c) = goes_or_fails c (with_goals rest branch) alternatives
outcome_move unify program branch goal rest alternatives (Prints t) = record { event = Printed (line_of program.symbols t); state = Running (with_goals rest branch) alternatives }
outcome_move unify program branch goal rest alternatives (Breaks e) = faults e

-- the reference's move of a built-in's goal is that of what it comes to
abbrev pub OutcomesMove : Type 0
OutcomesMove = (unify : Unification) (program : Program) (branch : Branch) (goal : Goal) (rest : List Goal) (alternatives : List Alternative) (b : Builtin) (ts : List Term)
    → kind_move unify program branch goal rest alternatives (reserved_goal (builtin_word b) ts) ≡ outcome_move unify program branch goal rest alternatives (outcome b ts)
