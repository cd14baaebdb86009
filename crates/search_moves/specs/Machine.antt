-- What contracts see of a machine, and the state of the reference that it stands for.
use Rattle.std.specs.Prelude.{◌≡◌, ℕ, ◌<◌, false, List, [], ◌∷◌, length, map, Option, Some, None}
use Rattle.ref_terms.specs.unification.Unification.{unify}
use Rattle.ref_terms.specs.search.Program.{Program}
use Rattle.level_terms.specs.declared.node.TermId.{TermId}
use Rattle.level_terms.specs.Graph.{Graph}
use Rattle.level_terms.specs.Reading.{read}
use Rattle.level_terms.specs.Valid.{IsValid}
use Rattle.beta_fragment.specs.Names.{names}
use Rattle.beta_fragment.specs.HeadForm.{all_read}
use Rattle.builtins.specs.Moves.{MovesTo, event_shown}
use Rattle.ref_terms.specs.unification.Problem.{Binding}
use Rattle.ref_terms.specs.search.Formula.{GoalKind}
use Rattle.ref_terms.specs.search.GoalMove.{kind_move}
use Rattle.ref_terms.specs.search.Branch.{Goal, Branch, bound_branch}
use Rattle.ref_terms.specs.search.Renamed as renamed
use Rattle.ref_terms.specs.search.Strip.{is_kept, BarriersFall}
use Rattle.ref_terms.specs.search.State as state
use Rattle.ref_terms.specs.search.State.{Alternative, State, Running, Ended, Over, Move, Moved, Printed, Answered, Faulted, Failure}
use Rattle.search_moves.specs.declared.frame.Frame.{Frame}
use Rattle.search_moves.specs.declared.frame.Saved.{Saved}
use Rattle.search_moves.specs.declared.machine.Phase.{Phase}
use Rattle.search_moves.specs.declared.machine.Phase.TheVariants as phase
use Rattle.search_moves.specs.declared.machine.Event.{Event}
use Rattle.search_moves.specs.declared.machine.Event.TheVariants as event
use Rattle.search_moves.specs.World.{World, chain, IsContextAt}
use Rattle.search_moves.specs.Reading.{goal_in, branch_in, alternatives_in}

-- the world, the goals of the present branch, the alternatives, newest first, and what the last move came to
pub record Machine : Type 0 where
  pub world : World
  pub first : ℕ
  pub saved : List Saved
  pub phase : Phase

-- the present branch
abbrev pub branch_of : Machine → Branch
branch_of m = branch_in m.world m.first

-- the alternatives
abbrev pub alternatives_of : Program → Machine → List Alternative
alternatives_of p m = alternatives_in p m.world m.saved

-- the state, by what the last move came to; after want of memory nothing is said of it
abbrev pub state_at : Program → Machine → Phase → State
state_at p m phase.Running = Running (branch_of m) (alternatives_of p m)
state_at p m phase.Answered = Ended (Some (branch_of m)) (alternatives_of p m)
state_at p m phase.Failed = Ended None (alternatives_of p m)
state_at p m phase.Exhausted = Over Failure
state_at p m (phase.Broken e) = Over (Faulted e)
state_at p m phase.Starved = Ended None (alternatives_of p m)

-- the state that a machine stands for
abbrev pub state_of : Program → Machine → State
state_of p m = state_at p m m.phase

-- the event of the reference
abbrev pub event_of : Machine → Event → state.Event
event_of m event.Moved = Moved
event_of m (event.Printed text) = Printed text
event_of m event.Answer = Answered (branch_of m)
event_of m event.Failure = Failure
event_of m (event.Fault e) = Faulted e

-- the newest alternative is left out: all its clauses clash, and no goal of the branch counts it, where none of its own goals does
pub record LeavesOut (p : Program) (s t : State) : Type 0 where
  pub branch : Branch
  pub alternative : Alternative
  pub older : List Alternative
  pub before : s ≡ Running branch (alternative ∷ older)
  pub after : t ≡ Running branch older
  pub clashes : is_kept unify p alternative ≡ false
  pub uncounted : BarriersFall (length older) (renamed.branch_of alternative).goals → BarriersFall (length older) branch.goals

-- the state as it is, or without its newest alternative
pub data IsLean (p : Program) (s t : State) : Type 0 where
  whole : t ≡ s → IsLean p s t
  leaner : LeavesOut p s t → IsLean p s t

-- the machine has made this move; it may leave an alternative out of which all clauses clash
pub record HasMoved (p : Program) (move : Move) (e : Event) (m : Machine) : Type 0 where
  pub event : event_of m e ≡ move.event
  pub state : IsLean p move.state (state_of p m)

-- a call leaves the alternatives' readings
abbrev pub LeavesAlternatives : Machine → Machine → Type 0
LeavesAlternatives m m' = (p : Program) → alternatives_of p m' ≡ alternatives_of p m

-- the frame is that of the first goal
pub record IsFirst (m : Machine) (f : Frame) : Type 0 where
  pub goals : chain m.world.frames m.first ≡ f ∷ chain m.world.frames f.next
  pub valid : IsValid m.world.heap f.term.index f.depth
  pub context : IsContextAt m.world.heap f.depth f.context
  pub later : f.next < m.first

-- the goals after it
abbrev pub rest_of : Machine → Frame → List Goal
rest_of m f = map (goal_in m.world.heap) (chain m.world.frames f.next)

-- a built-in succeeds: the present branch goes on under bindings under which the reference's goes on, and this is shown
pub record GoesOnSo (table : List (List ℕ)) (old new : Machine) (depth : ℕ) (kind : GoalKind) (shown : Option (List ℕ)) : Type 0 where
  pub made : List Binding
  pub branch : branch_of new ≡ bound_branch made (length new.world.heap.depths) (branch_of old)
  pub moves : MovesTo table old.world.heap depth kind (λ branch alternatives. record { event = event_shown shown; state = Running (bound_branch made (length new.world.heap.depths) branch) alternatives })

-- the reference's move of the first goal, if it is of this kind
abbrev pub move_of : Program → Machine → Frame → GoalKind → Move
move_of p m f kind = kind_move unify p (branch_of m) (goal_in m.world.heap f) (rest_of m f) (alternatives_of p m) kind

-- the machine has made the move of the first goal
abbrev pub HasMovedBy : (old new : Machine) → Frame → GoalKind → Event → Type 0
HasMovedBy old new f kind e = (p : Program) → HasMoved p (move_of p old f kind) e new

-- the state of a search that begins: one goal without names and assumptions, with barrier 0
abbrev pub StartsWith : Graph → (query : List TermId) → (goal : TermId) → Machine → Type 0
StartsWith g query goal m = (p : Program) → state_of p m ≡ Running (record {
  goals = record { names = 0; assumptions = []; barrier = 0; term = read g goal.index names } ∷ [];
  store = [];
  fired = [];
  query = all_read g query;
  next_var = length g.depths;
  declared = 0;
  path = [];
}) []
