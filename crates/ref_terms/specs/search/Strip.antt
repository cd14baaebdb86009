-- States without the clauses of their alternatives that are bound to clash.
--
-- An engine that looks clauses up by a key never lists some that clash, and then has fewer alternatives.
-- So its states are compared with those of the search after both are stripped.
use Rattle.std.specs.Prelude.{ℕ, ◌≤◌, Bool, true, false, cond, not, List, [], ◌∷◌, map, length, filter}
use Rattle.std.specs.List.{list_any}
use Rattle.ref_terms.specs.unification.Spine.{head_of}
use Rattle.ref_terms.specs.search.Program.{Program, constant_of}
use Rattle.ref_terms.specs.search.Branch.{Goal, Branch}
use Rattle.ref_terms.specs.search.State.{Candidate, Alternative, later_clauses, other_side, State, Running, Ended, Over}
use Rattle.ref_terms.specs.search.Resolve.{Unification, Tried, Clashes, try}
use Rattle.ref_terms.specs.search.BranchMove.{cut_to}
use Rattle.ref_terms.specs.search.Next.{constant_modes}
use Rattle.ref_terms.specs.search.Renamed.{branch_of}
use Rattle.ref_terms.specs.search.Alike.{AlikeState}

-- a goal with its barrier counted anew
abbrev pub recounted : (ℕ → ℕ) → Goal → Goal
recounted count g = record g { barrier = count g.barrier }

-- a branch with the barriers of its goals counted anew
abbrev pub with_barriers : (ℕ → ℕ) → Branch → Branch
with_barriers count b = record b { goals = map (recounted count) b.goals }

-- a clash
abbrev pub is_clash : Tried → Bool
is_clash Clashes = true
is_clash _ = false

-- whether a clause clashes with the first of these goals of the branch; the barrier 0 makes no difference to that
abbrev pub clashes_at : Unification → Program → Branch → List Goal → Candidate → Bool
clashes_at unify program branch [] c = true
clashes_at unify program branch (goal ∷ rest) c = is_clash (try unify (constant_modes program (constant_of (head_of goal.term))) branch goal rest 0 c)

-- whether a clause of an alternative doesn't clash in its branch
abbrev pub is_open : Unification → Program → Branch → Candidate → Bool
is_open unify program branch c = not (clashes_at unify program branch branch.goals c)

-- an alternative is kept where it is the right side of a disjunction, or where some clause of it doesn't clash
abbrev pub is_kept : Unification → Program → Alternative → Bool
is_kept unify program (other_side b) = true
is_kept unify program (later_clauses b cs) = list_any (is_open unify program b) cs

-- how many of the oldest n alternatives are kept
abbrev pub kept_of : Unification → Program → List Alternative → ℕ → ℕ
kept_of unify program alternatives n = length (filter (is_kept unify program) (cut_to n alternatives))

-- an alternative without the clauses that clash; its barriers count those of the older alternatives that are kept
abbrev pub stripped : Unification → Program → List Alternative → Alternative → Alternative
stripped unify program older (other_side b) = other_side (with_barriers (kept_of unify program older) b)
stripped unify program older (later_clauses b cs) = later_clauses (with_barriers (kept_of unify program older) b) (filter (is_open unify program b) cs)

-- the alternatives that are kept, each stripped
abbrev pub strip_all : Unification → Program → List Alternative → List Alternative
strip_all unify program [] = []
strip_all unify program (x ∷ xs) = cond (is_kept unify program x) (stripped unify program xs x ∷ strip_all unify program xs) (strip_all unify program xs)

-- a state with its alternatives stripped; barriers count the alternatives that are kept, and an ended branch has no goals
abbrev pub strip : Unification → Program → State → State
strip unify program (Running b xs) = Running (with_barriers (kept_of unify program xs) b) (strip_all unify program xs)
strip unify program (Ended b xs) = Ended b (strip_all unify program xs)
strip unify program (Over e) = Over e

-- no barrier is above this number, and none is above that of an earlier goal
abbrev pub BarriersFall : ℕ → List Goal → Type 0
BarriersFall top [] = Unit {0}
BarriersFall top (g ∷ gs) = (g.barrier ≤ top) × BarriersFall g.barrier gs

-- the barriers of each alternative fall from the number of the older ones
abbrev pub AreCounted : List Alternative → Type 0
AreCounted [] = Unit {0}
AreCounted (x ∷ xs) = BarriersFall (length xs) (branch_of x).goals × AreCounted xs

-- barriers are numbers of alternatives that are there, as in each state that a search comes to
abbrev pub IsCounted : State → Type 0
IsCounted (Running b xs) = BarriersFall (length xs) b.goals × AreCounted xs
IsCounted (Ended b xs) = AreCounted xs
IsCounted (Over e) = Unit {0}

-- states that are alike once both are stripped
abbrev pub AlikeOnceStripped : Unification → Program → State → State → Type 0
AlikeOnceStripped unify program s t = AlikeState (strip unify program s) (strip unify program t)
