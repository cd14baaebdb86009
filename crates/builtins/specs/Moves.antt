-- What a call of a built-in means for the search.
use Rattle.std.specs.Prelude.{◌≡◌, ℕ, ◌<◌, List, length, Option, Some, None}
use Rattle.level_terms.specs.Graph.{Graph}
use Rattle.level_terms.specs.Reading.{read}
use Rattle.ref_terms.specs.terms.Term.{Term}
use Rattle.ref_terms.specs.unification.Problem.{Binding}
use Rattle.ref_terms.specs.unification.Unification.{unify}
use Rattle.ref_terms.specs.search.Formula.{GoalKind}
use Rattle.ref_terms.specs.search.Program.{Program}
use Rattle.ref_terms.specs.search.Branch.{Goal, Branch, bound, bound_branch, with_goals}
use Rattle.ref_terms.specs.search.State.{Alternative, Event, Moved, Printed, Running, Move, faults}
use Rattle.ref_terms.specs.search.BranchMove.{fails}
use Rattle.ref_terms.specs.search.GoalMove.{kind_move}
use Rattle.beta_fragment.specs.declared.answer.UnifyStop.{UnifyStop}
use Rattle.beta_fragment.specs.declared.answer.UnifyStop.TheVariants.{Fault, Memory}

-- the event, by what is printed
abbrev pub event_shown : Option (List ℕ) → Event
event_shown None = Moved
event_shown (Some text) = Printed text

-- the reference's move of a first goal of this kind at this depth, over these symbols, on any branch whose next variable is the heap's
abbrev pub MovesTo : (table : List (List ℕ)) → Graph → (depth : ℕ) → GoalKind → (Branch → List Alternative → Move) → Type 0
MovesTo table g depth kind move = (program : Program) (branch : Branch) (goal : Goal) (rest : List Goal) (alternatives : List Alternative)
    → program.symbols ≡ table → branch.next_var ≡ length g.depths → goal.names ≡ depth
    → kind_move unify program branch goal rest alternatives kind ≡ move (with_goals rest branch) alternatives

-- each node means what it meant under the bindings, under which the branch goes on with the goals that are left
pub record GoesOn (table : List (List ℕ)) (old new : Graph) (depth : ℕ) (kind : GoalKind) (shown : Option (List ℕ)) : Type 0 where
  pub made : List Binding
  pub readings : (t : ℕ) (env : ℕ → Term) → t < length old.nodes → read new t env ≡ bound made (read old t env)
  pub moves : MovesTo table old depth kind (λ branch alternatives. record { event = event_shown shown; state = Running (bound_branch made (length new.depths) branch) alternatives })

-- the branch fails
abbrev pub FailsSo : (table : List (List ℕ)) → Graph → (depth : ℕ) → GoalKind → Type 0
FailsSo table g depth kind = MovesTo table g depth kind (λ branch alternatives. fails alternatives)

-- the search ends in this fault; want of memory may come at any time
abbrev pub BreaksOff : (table : List (List ℕ)) → Graph → (depth : ℕ) → GoalKind → UnifyStop → Type 0
BreaksOff table g depth kind (Fault e) = MovesTo table g depth kind (λ branch alternatives. faults e)
BreaksOff table g depth kind Memory = Unit {0}
