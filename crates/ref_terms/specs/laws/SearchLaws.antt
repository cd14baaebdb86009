-- What the laws on alike states of the search say, and those on stripped states.
use Rattle.std.specs.Prelude.{◌≡◌, ℕ, suc, ◌<◌, ◌≤◌, List, map}
use Rattle.ref_terms.specs.unification.Problem.{Problem}
use Rattle.ref_terms.specs.unification.Renamed.{renamed, renamed_answer, IsRenaming}
use Rattle.ref_terms.specs.unification.Unification.{unify}
use Rattle.ref_terms.specs.search.Program.{Program, Query, QueryVar}
use Rattle.ref_terms.specs.search.Branch.{Branch}
use Rattle.ref_terms.specs.search.State.{Event, State}
use Rattle.ref_terms.specs.search.Next.{next}
use Rattle.ref_terms.specs.search.Events.{events, first_state}
use Rattle.ref_terms.specs.search.Renamed.{branch_vars}
use Rattle.ref_terms.specs.search.Used.{BranchBelow}
use Rattle.ref_terms.specs.search.Alike.{RenamedBranch, RenamedState, RenamedMove, AlikeState, AlikeEvent, AlikeMove, shown}
use Rattle.ref_terms.specs.search.Strip.{strip, IsCounted, AlikeOnceStripped}

-- a problem whose variables are renamed, those to come in order, has the answer renamed
abbrev pub RenamedProblemHasRenamedAnswer : Type 0
RenamedProblemHasRenamedAnswer = (p : ℕ → ℕ) (m m' : ℕ) (q : Problem) → IsRenaming p m m' → ((k : ℕ) → q.next_var ≤ k → p (suc k) ≡ suc (p k))
    → unify m' (renamed p q) ≡ renamed_answer p (unify m q)

-- a one-to-one renaming of the variables in use is enough for a renamed branch, with any next variable above them
abbrev pub RenamingOfUsedVariables : Type 0
RenamingOfUsedVariables = (b : Branch) (p : ℕ → ℕ) (n : ℕ) → BranchBelow b → ((v w : ℕ) → v < b.next_var → w < b.next_var → p v ≡ p w → v ≡ w)
    → ((v : ℕ) → v < b.next_var → p v < n) → RenamedBranch b (record (branch_vars p b) { next_var = n })

-- one state with its branches renamed moves to the move's state with its branches renamed
abbrev pub RenamedStatesMoveRenamed : Type 0
RenamedStatesMoveRenamed = (program : Program) (s t : State) → RenamedState s t → RenamedMove (next unify program s) (next unify program t)

-- alike states move to alike states, with alike events
abbrev pub AlikeStatesMoveAlike : Type 0
AlikeStatesMoveAlike = (program : Program) (s t : State) → AlikeState s t → AlikeMove (next unify program s) (next unify program t)

-- of alike events the same is written: equal blocks and paths of answers, equal printed lines, equal faults
abbrev pub AlikeEventsShowTheSame : Type 0
AlikeEventsShowTheSame = (table : List (List ℕ)) (variables : List QueryVar) (e f : Event) → AlikeEvent e f → shown table variables e ≡ shown table variables f

-- so alike states write the same, however many moves they make
abbrev pub AlikeStatesShowTheSame : Type 0
AlikeStatesShowTheSame = (program : Program) (variables : List QueryVar) (n : ℕ) (s t : State) → AlikeState s t
    → map (shown program.symbols variables) (events unify program n s) ≡ map (shown program.symbols variables) (events unify program n t)

-- the move of a stripped state is the stripped move, with the same event
abbrev pub StrippedStateMovesStripped : Type 0
StrippedStateMovesStripped = (program : Program) (s : State) → IsCounted s
    → ((next unify program (strip unify program s)).event ≡ (next unify program s).event)
    × (strip unify program (next unify program (strip unify program s)).state ≡ strip unify program (next unify program s).state)

-- stripping leaves alike states alike
abbrev pub AlikeStatesStripAlike : Type 0
AlikeStatesStripAlike = (program : Program) (s t : State) → AlikeState s t → AlikeOnceStripped unify program s t

-- states that are alike once stripped move to such states, with alike events
abbrev pub AlikeOnceStrippedMoveAlike : Type 0
AlikeOnceStrippedMoveAlike = (program : Program) (s t : State) → IsCounted s → IsCounted t → AlikeOnceStripped unify program s t
    → AlikeEvent (next unify program s).event (next unify program t).event × AlikeOnceStripped unify program (next unify program s).state (next unify program t).state

-- and write the same, however many moves they make
abbrev pub AlikeOnceStrippedShowTheSame : Type 0
AlikeOnceStrippedShowTheSame = (program : Program) (variables : List QueryVar) (n : ℕ) (s t : State) → IsCounted s → IsCounted t → AlikeOnceStripped unify program s t
    → map (shown program.symbols variables) (events unify program n s) ≡ map (shown program.symbols variables) (events unify program n t)

-- the first state of a query has its barriers counted
abbrev pub FirstStateIsCounted : Type 0
FirstStateIsCounted = (query : Query) → IsCounted (first_state query)

-- and so has the state after a move
abbrev pub CountedStateMovesCounted : Type 0
CountedStateMovesCounted = (program : Program) (s : State) → IsCounted s → IsCounted (next unify program s).state
