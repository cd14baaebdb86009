-- One move, in the order of moves.
use Rattle.std.specs.Prelude.{ℕ, Bool, not, List, [], ◌∷◌, ◌++◌, map, length, filter, Option, Some, None}
use Rattle.std.specs.List.{list_any}
use Rattle.ref_terms.specs.search.Fault.{Judged, Good, Bad}
use Rattle.ref_terms.specs.search.Program.{Program, modes_of, constant_of}
use Rattle.ref_terms.specs.search.Value.{is_flex}
use Rattle.ref_terms.specs.search.Branch.{Goal, Constraint, Branch}
use Rattle.ref_terms.specs.search.State.{Candidate, Alternative, later_clauses, other_side, Answered, Failure, State, Running, Ended, Over, Move, goes_on, stops, faults}
use Rattle.ref_terms.specs.search.Resolve.{Unification, Resolved, resolve}
use Rattle.ref_terms.specs.search.RuleInstance.{Firing, after_firing}
use Rattle.ref_terms.specs.search.FirstRule.{first_firing}
use Rattle.ref_terms.specs.search.GoalMove.{goal_move}
use Rattle.ref_terms.specs.search.BranchMove.{with_later}
use Rattle.ref_terms.specs.unification.Spine.{head_of}

-- a constraint is awake where some key isn't headed by a variable
abbrev pub is_awake : Constraint → Bool
is_awake c = list_any (λ k. not (is_flex k)) c.keys

-- a constraint as a goal
abbrev pub woken_goal : ℕ → Constraint → Goal
woken_goal barrier c = record { names = c.names; assumptions = c.assumptions; barrier = barrier; term = c.term }

-- the awake constraints leave the store and become the first goals
abbrev pub woken : Branch → (barrier : ℕ) → List Constraint → Branch
woken branch barrier up = record branch { goals = map (woken_goal barrier) up ++ branch.goals; store = filter (λ c. not (is_awake c)) branch.store }

-- the first goal's move; where no goal is left, an answer
abbrev pub by_goal : Unification → Program → Branch → List Alternative → List Goal → Move
by_goal unify program branch alternatives [] = record { event = Answered branch; state = Ended (Some branch) alternatives }
by_goal unify program branch alternatives (goal ∷ rest) = goal_move unify program branch goal rest alternatives

-- the first rule instance or fault, else the first goal
abbrev pub by_rule : Unification → Program → Branch → List Alternative → Option (Judged Firing) → Move
by_rule unify program branch alternatives (Some (Good f)) = goes_on (after_firing branch (length alternatives) f) alternatives
by_rule unify program branch alternatives (Some (Bad e)) = faults e
by_rule unify program branch alternatives None = by_goal unify program branch alternatives branch.goals

-- waking, then a rule, then the first goal
abbrev pub by_waking : Unification → Program → Branch → List Alternative → List Constraint → Move
by_waking unify program branch alternatives (c ∷ cs) = goes_on (woken branch (length alternatives) (c ∷ cs)) alternatives
by_waking unify program branch alternatives [] = by_rule unify program branch alternatives (first_firing unify branch 0 program.rules)

-- the modes of a goal's constant
abbrev pub constant_modes : Program → Option ℕ → Option (List Bool)
constant_modes program (Some c) = modes_of program c
constant_modes program None = None

-- the first goal once more, with the clauses that are left
abbrev pub resolve_later : Unification → Program → Branch → (barrier : ℕ) → List Candidate → List Goal → Option (Judged Resolved)
resolve_later unify program branch barrier cs [] = None
resolve_later unify program branch barrier cs (goal ∷ rest) = resolve unify (constant_modes program (constant_of (head_of goal.term))) branch goal rest barrier cs

-- the move of a retry: a branch, a fault, or what the older alternatives give
abbrev pub retaken : Branch → List Alternative → Move → Option (Judged Resolved) → Move
retaken branch alternatives older (Some (Good r)) = goes_on r.branch (with_later branch r.later alternatives)
retaken branch alternatives older (Some (Bad e)) = faults e
retaken branch alternatives older None = older

-- the newest alternative that gives a branch or a fault
abbrev pub retry : Unification → Program → List Alternative → Move
retry unify program [] = stops Failure
retry unify program (other_side branch ∷ alternatives) = goes_on branch alternatives
retry unify program (later_clauses branch cs ∷ alternatives) = retaken branch alternatives (retry unify program alternatives) (resolve_later unify program branch (length alternatives) cs branch.goals)

-- one move
unfoldable pub next : Unification → Program → State → Move
next unify program (Running branch alternatives) = by_waking unify program branch alternatives (filter is_awake branch.store)
next unify program (Ended branch alternatives) = retry unify program alternatives
next unify program (Over e) = record { event = e; state = Over e }
