-- What the laws on worlds and alternatives say.
use Rattle.std.specs.Prelude.{◌≡◌, ℕ, List, [], ◌∷◌, length}
use Rattle.level_terms.specs.declared.node.Change.{Change}
use Rattle.level_terms.specs.Growth.{Grows}
use Rattle.level_terms.specs.Sound.{IsSound}
use Rattle.pattern_unify.specs.Answers.{ReadsUnder}
use Rattle.ref_terms.specs.unification.Problem.{Problem}
use Rattle.ref_terms.specs.search.Program.{Program}
use Rattle.ref_terms.specs.search.Branch.{bound_branch}
use Rattle.ref_terms.specs.search.State.{State}
use Rattle.ref_terms.specs.search.Strip.{IsCounted}
use Rattle.ref_terms.specs.search.Events.{events}
use Rattle.ref_terms.specs.unification.Unification.{unify}
use Rattle.search_moves.specs.declared.frame.Mark.{Mark}
use Rattle.search_moves.specs.declared.frame.Saved.{Saved}
use Rattle.search_moves.specs.World.{World, undone, IsWithin, IsFine}
use Rattle.search_moves.specs.Reading.{branch_in, left_at, saved_in, alternatives_in}
use Rattle.search_moves.specs.Machine.{IsLean}
use Rattle.search_moves.specs.Moves.{LeavesRest}
use Rattle.search_moves.specs.Saved.{AllSaved, Keeps, KeepsNewest}

-- whatever keeps the newest mark leaves each alternative's reading, and what holds of it
abbrev pub KeptAlternativesStay : Type 0
KeptAlternativesStay = (p : Program) (w w' : World) (saved : List Saved) → AllSaved w saved → KeepsNewest saved w w'
    → (alternatives_in p w' saved ≡ alternatives_in p w saved) × AllSaved w' saved

-- what a call may change of the heap keeps each mark
abbrev pub GrowthKeeps : Type 0
GrowthKeeps = (w : World) (w' : World) (s t : List Change) (m : Mark) → Grows w.heap w'.heap s t → LeavesRest w w' → IsWithin m w → Keeps m w w'

-- the newest alternative is popped: the world gone back to its mark has its branch, and the older alternatives read as before
abbrev pub PoppedReads : Type 0
PoppedReads = (p : Program) (w : World) (a : Saved) (older : List Saved) → AllSaved w (a ∷ older)
    → (saved_in p w a ≡ left_at p (branch_in (undone a.mark w) a.first) a.left)
    × (alternatives_in p (undone a.mark w) older ≡ alternatives_in p w older) × AllSaved (undone a.mark w) older

-- without the newest alternative the others read as before
abbrev pub DroppedReads : Type 0
DroppedReads = (w : World) (a : Saved) (older : List Saved) → AllSaved w (a ∷ older) → AllSaved w older

-- after a unification that answered true the branch is the old one under the bindings
abbrev pub UnifiedReads : Type 0
UnifiedReads = (w w' : World) (first : ℕ) (q : Problem) → IsFine w first → LeavesRest w w'
    → ReadsUnder w.heap w'.heap q → branch_in w' first ≡ bound_branch q.bindings q.next_var (branch_in w first)

-- nodes and variables that are added leave the branch as it was, but for its next variable
abbrev pub GrownReads : Type 0
GrownReads = (w w' : World) (first : ℕ) → IsSound w.heap → IsFine w first → LeavesRest w w'
    → Grows w.heap w'.heap [] [] → branch_in w' first ≡ record (branch_in w first) { next_var = length w'.heap.depths }

-- a state without its newest alternative, where that is left out, shows the same events, and has its barriers counted too
abbrev pub LeanStatesShowTheSame : Type 0
LeanStatesShowTheSame = (p : Program) (s t : State) → IsCounted s → IsLean p s t → IsCounted t × ((n : ℕ) → events unify p n t ≡ events unify p n s)
