-- The state of the reference that a search stands for.
use Rattle.std.specs.Prelude.{ℕ, List, [], ◌∷◌, ◌++◌, length, drop, map}
use Rattle.level_terms.specs.Graph.{Graph}
use Rattle.level_terms.specs.Reading.{read}
use Rattle.beta_fragment.specs.Names.{names}
use Rattle.beta_fragment.specs.HeadForm.{all_read}
use Rattle.hyp_clause.specs.declared.hyp.Hyp.{Hyp}
use Rattle.hyp_clause.specs.Hyps.{assumption_in}
use Rattle.suspend.specs.declared.constraint.Constraint.{Constraint}
use Rattle.suspend.specs.declared.constraint.Fired.{Fired}
use Rattle.suspend.specs.Store.{added, stored, firings}
use Rattle.ref_terms.specs.declared.path.Choice.TheVariants.{Right}
use Rattle.ref_terms.specs.search.Program.{Program}
use Rattle.ref_terms.specs.search.Branch as branch
use Rattle.ref_terms.specs.search.Branch.{Goal, Branch}
use Rattle.ref_terms.specs.search.State.{Alternative, Candidate, of_assumption, later_clauses, other_side}
use Rattle.ref_terms.specs.search.Assumption.{Assumption}
use Rattle.ref_terms.specs.search.Candidates.{program_candidates, assumptions_for, from_place}
use Rattle.search_moves.specs.declared.frame.Frame.{Frame}
use Rattle.search_moves.specs.declared.frame.Saved.{Saved}
use Rattle.search_moves.specs.declared.frame.Left.{Left}
use Rattle.search_moves.specs.declared.frame.Left.TheVariants.{Call, Side}
use Rattle.search_moves.specs.declared.frame.Later.{Later}
use Rattle.search_moves.specs.declared.frame.Later.TheVariants.{Assumptions, Clauses}
use Rattle.search_moves.specs.World.{World, undone, chain}

-- the goal of a frame
abbrev pub goal_in : Graph → Frame → Goal
goal_in g f = record { names = f.depth; assumptions = map (assumption_in g) f.context; barrier = f.barrier; term = read g f.term.index names }

-- the constraint of the reference that a suspended goal with its number is
abbrev pub constraint_in : Graph → ℕ × Constraint (List Hyp) → branch.Constraint
constraint_in g e = record {
  number = e.0;
  names = e.1.names;
  assumptions = map (assumption_in g) e.1.context;
  term = read g e.1.goal.index names;
  keys = all_read g e.1.keys;
}

-- a firing of the reference
abbrev pub firing_of : Fired → branch.Fired
firing_of f = record { rule = f.rule; constraints = f.constraints.items }

-- the branch with these goals
abbrev pub branch_in : World → (first : ℕ) → Branch
branch_in w first = record {
  goals = map (goal_in w.heap) (chain w.frames first);
  store = map (constraint_in w.heap) (stored w.log);
  fired = map firing_of (firings w.log);
  query = all_read w.heap w.query;
  next_var = length w.heap.depths;
  declared = added w.log;
  path = w.path;
}

-- the assumptions of the first goal
abbrev pub first_assumptions : List Goal → List Assumption
first_assumptions [] = []
first_assumptions (g ∷ gs) = g.assumptions

-- what a call has left: the assumptions of its constant from a place on, and then all clauses of the program, or these from a place on
abbrev pub later_of : Program → List Goal → ℕ → Later → List Candidate
later_of p gs c (Assumptions i hs) = from_place of_assumption i (drop i (assumptions_for c (first_assumptions gs))) ++ program_candidates c 0 p.clauses
later_of p gs c (Clauses i) = program_candidates c i (drop i p.clauses)

-- a branch, with what is left to try there
abbrev pub left_at : Program → Branch → Left → Alternative
left_at p b (Call c later) = later_clauses b (later_of p b.goals c.0 later)
left_at p b Side = other_side (record b { path = Right ∷ b.path })

-- an alternative, as the world was at its mark
abbrev pub saved_in : Program → World → Saved → Alternative
saved_in p w a = left_at p (branch_in (undone a.mark w) a.first) a.left

-- the alternatives, newest first
abbrev pub alternatives_in : Program → World → List Saved → List Alternative
alternatives_in p w saved = map (saved_in p w) saved
