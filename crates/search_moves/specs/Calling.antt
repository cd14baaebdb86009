-- Calls of atoms, and the clauses that are tried.
use Rattle.std.specs.Prelude.{◌≡◌, ℕ, ◌<◌, Bool, true, false, cond, nat_eq, List, [], ◌∷◌, length, map, drop, replicate, slice_get, Option, Some, None, unwrap_or}
use Rattle.std.specs.List.{list_any}
use Rattle.level_terms.specs.declared.node.TermId.{TermId}
use Rattle.level_terms.specs.Graph.{Graph}
use Rattle.level_terms.specs.Reading.{read}
use Rattle.beta_fragment.specs.declared.answer.UnifyStop.{UnifyStop}
use Rattle.beta_fragment.specs.declared.answer.UnifyStop.TheVariants.{Fault, Memory}
use Rattle.beta_fragment.specs.HeadForm.{all_read, AllValidAt}
use Rattle.beta_fragment.specs.Names.{names}
use Rattle.ref_terms.specs.terms.Term.{Term, Con}
use Rattle.ref_terms.specs.unification.Spine.{args_of, head_of}
use Rattle.ref_terms.specs.unification.Problem.{Binding}
use Rattle.ref_terms.specs.search.Program.{Program, Clause, headed_by, modes_of}
use Rattle.ref_terms.specs.search.Branch.{Branch, bound, bound_branch}
use Rattle.ref_terms.specs.search.Fault.{Judged, Good, Bad}
use Rattle.clause_key.specs.declared.key.Key.{Key}
use Rattle.clause_key.specs.declared.key.Key.TheVariants.{Any}
use Rattle.clause_key.specs.Keys.{key_among}
use Rattle.hyp_clause.specs.declared.hyp.Hyp.{Hyp}
use Rattle.hyp_clause.specs.Hyps.{assumption_in}
use Rattle.ref_terms.specs.search.Candidates.{program_candidates, call_fault}
use Rattle.ref_terms.specs.search.Strip.{is_open}
use Rattle.ref_terms.specs.search.State.{Candidate, Alternative, of_assumption}
use Rattle.ref_terms.specs.search.BranchMove.{with_later}
use Rattle.ref_terms.specs.search.Resolve.{Tried, Fits, Clashes, Breaks, Resolved, resolve, try}
use Rattle.ref_terms.specs.unification.Unification.{unify}
use Rattle.search_moves.specs.declared.frame.Frame.{Frame}
use Rattle.search_moves.specs.declared.frame.Mark.{Mark}
use Rattle.search_moves.specs.declared.frame.Left.TheVariants.{Call as LeftCall}
use Rattle.search_moves.specs.declared.frame.Later.{Later}
use Rattle.search_moves.specs.declared.frame.Later.TheVariants.{Clauses}
use Rattle.ref_terms.specs.declared.sym.Sym.{Sym}
use Rattle.search_moves.specs.Reading.{goal_in, saved_in, later_of}
use Rattle.search_moves.specs.Instances.{HaveBuiltValues}
use Rattle.search_moves.specs.declared.call.Call.{Call}
use Rattle.search_moves.specs.Machine.{Machine, branch_of, alternatives_of, rest_of, IsFirst}
use Rattle.search_moves.specs.Matching.{tried_at}

-- the first goal is this call: an atom of the constant with these arguments
pub record IsCall (m : Machine) (call : Call) : Type 0 where
  pub first : IsFirst m call.goal.now
  pub args : AllValidAt m.world.heap call.args.now call.goal.now.depth
  pub head : head_of (read m.world.heap call.goal.now.term.index names) ≡ Some (Con call.pred.0)
  pub arguments : args_of (read m.world.heap call.goal.now.term.index names) ≡ all_read m.world.heap call.args.now

-- its inputs are those of the modes; without modes all arguments are outputs
abbrev pub HasInputs : Call → Option (List Bool) → Type 0
HasInputs call modes = call.inputs.now ≡ unwrap_or modes (replicate (length call.args.now) false)

-- what the reference makes of a branch with a clause in the heap: one with another number of arguments clashes
abbrev pub tried_made : Graph → (first_fresh depth : ℕ) → List Bool → (heads args : List TermId) → Branch → Tried
tried_made g first_fresh depth ms hs ts b = cond (nat_eq (length hs) (length ts)) (tried_at g first_fresh depth ms hs ts b) Clashes

-- the head fits: the present branch goes on under the bindings with which the reference tries any branch
pub record HasFitted (first_fresh depth : ℕ) (ms : List Bool) (hs ts : List TermId) (old new : Machine) : Type 0 where
  pub made : List Binding
  pub built : HaveBuiltValues made
  pub fits : (b : Branch) → tried_made old.world.heap first_fresh depth ms hs ts b ≡ Fits (bound_branch made (length new.world.heap.depths) b)
  pub branch : branch_of new ≡ bound_branch made (length new.world.heap.depths) (branch_of old)
  pub readings : (t : ℕ) (env : ℕ → Term) → t < length old.world.heap.nodes → read new.world.heap t env ≡ bound made (read old.world.heap t env)

-- it clashes
abbrev pub HasClashed : (first_fresh depth : ℕ) → List Bool → (heads args : List TermId) → Graph → Type 0
HasClashed first_fresh depth ms hs ts g = (b : Branch) → tried_made g first_fresh depth ms hs ts b ≡ Clashes

-- what was tried breaks off with this fault; want of memory may come at any time
abbrev pub BreaksSo : Tried → UnifyStop → Type 0
BreaksSo t (Fault e) = t ≡ Breaks e
BreaksSo t Memory = Unit {0}

-- so it is with the head of a clause
abbrev pub HasBroken : (first_fresh depth : ℕ) → List Bool → (heads args : List TermId) → Graph → UnifyStop → Type 0
HasBroken first_fresh depth ms hs ts g stop = (b : Branch) → BreaksSo (tried_made g first_fresh depth ms hs ts b) stop

-- what the reference makes of a clause for the first goal
abbrev pub tried_here : Machine → Frame → Option (List Bool) → Candidate → Tried
tried_here m f modes c = try unify modes (branch_of m) (goal_in m.world.heap f) (rest_of m f) (length m.saved) c

-- what is left of a call becomes an alternative; where all of it clashes, none may be made
pub data Leaves (p : Program) (b : Branch) (later : List Candidate) (old new : List Alternative) : Type 0 where
  left_over : new ≡ with_later b later old → Leaves p b later old new
  left_out : new ≡ old → list_any (is_open unify p b) later ≡ false → Leaves p b later old new

-- the clause fits: the branch is the one that it gives, and the later clauses are an alternative, unless all of them clash
pub record HasEntered (p : Program) (old new : Machine) (f : Frame) (modes : Option (List Bool)) (c : Candidate) (later : List Candidate) : Type 0 where
  pub fits : tried_here old f modes c ≡ Fits (branch_of new)
  pub alternatives : Leaves p (branch_of old) later (alternatives_of p old) (alternatives_of p new)

-- what is left of a call is an alternative of the world at the mark, if there is anything
abbrev pub LeavesLater : Program → (old new : Machine) → Mark → (first : ℕ) → Sym → Option Later → Type 0
LeavesLater p old new mark first c None = alternatives_of p new ≡ alternatives_of p old
LeavesLater p old new mark first c (Some later) = alternatives_of p new ≡ saved_in p old.world (record { mark = mark; first = first; left = LeftCall c later }) ∷ alternatives_of p old

-- what is left after a clause are these candidates; nothing, where all of them clash
abbrev pub IsLeftAfter : Program → Branch → Sym → List Candidate → Option Later → Type 0
IsLeftAfter p b c cs None = list_any (is_open unify p b) cs ≡ false
IsLeftAfter p b c cs (Some later) = (x : Candidate) × (xs : List Candidate) × (cs ≡ x ∷ xs) × (later_of p b.goals c.0 later ≡ cs)

-- the clauses of the program from this one on, if there is one
abbrev pub clauses_from : Option ℕ → Option Later
clauses_from None = None
clauses_from (Some i) = Some (Clauses i)

-- the clauses from a number on, if there is one that agrees with the key of the call
abbrev pub left_from : Option ℕ → ℕ → Option ℕ
left_from None from = None
left_from (Some i) from = Some from

-- what the reference makes of the clauses of the constant from this number on
abbrev pub resolved_from : Machine → Frame → List Clause → (c from : ℕ) → Option (List Bool) → Option (Judged Resolved)
resolved_from m f ks c from modes = resolve unify modes (branch_of m) (goal_in m.world.heap f) (rest_of m f) (length m.saved) (program_candidates c from (drop from ks))

-- one of them fits: the branch is its, and the later ones are an alternative
pub record HasResolved (p : Program) (old new : Machine) (f : Frame) (c from : ℕ) (modes : Option (List Bool)) : Type 0 where
  pub resolved : Resolved
  pub found : resolved_from old f p.clauses c from modes ≡ Some (Good resolved)
  pub branch : branch_of new ≡ resolved.branch
  pub alternatives : Leaves p (branch_of old) resolved.later (alternatives_of p old) (alternatives_of p new)

-- what the reference makes of what is left of a call
abbrev pub resolved_later : Program → Machine → Frame → (c : ℕ) → Later → Option (List Bool) → Option (Judged Resolved)
resolved_later p m f c later modes = resolve unify modes (branch_of m) (goal_in m.world.heap f) (rest_of m f) (length m.saved) (later_of p (branch_of m).goals c later)

-- something of it fits: the branch is its, and what is left then is an alternative
pub record HasResolvedLater (p : Program) (old new : Machine) (f : Frame) (c : ℕ) (later : Later) (modes : Option (List Bool)) : Type 0 where
  pub resolved : Resolved
  pub found : resolved_later p old f c later modes ≡ Some (Good resolved)
  pub branch : branch_of new ≡ resolved.branch
  pub alternatives : Leaves p (branch_of old) resolved.later (alternatives_of p old) (alternatives_of p new)

-- the call's constant is a predicate, and has as many arguments
abbrev pub IsNoFault : Program → Machine → Call → Type 0
IsNoFault p m call = call_fault p call.pred.0 (all_read m.world.heap call.args.now) (map (assumption_in m.world.heap) call.goal.now.context) ≡ None

-- the first that doesn't clash comes to this fault; want of memory may come at any time
abbrev pub ResolvedStops : Option (Judged Resolved) → UnifyStop → Type 0
ResolvedStops r (Fault e) = r ≡ Some (Bad e)
ResolvedStops r Memory = Unit {0}

-- the key of a call: that of its key argument, where there are as many arguments as modes
abbrev pub key_of_call : Graph → Call → Key
key_of_call g call = cond (nat_eq (length call.args.now) (length call.inputs.now)) (key_among call.inputs.now (all_read g call.args.now)) Any

-- a clause clashes with the first goal, whatever its body would have as barrier
abbrev pub ClashesHere : Machine → Frame → Option (List Bool) → Candidate → Type 0
ClashesHere m f modes c = (barrier : ℕ) → try unify modes (branch_of m) (goal_in m.world.heap f) (rest_of m f) barrier c ≡ Clashes

-- so does an assumption, at whatever place
abbrev pub HypClashes : Machine → Frame → Option (List Bool) → Hyp → Type 0
HypClashes m f modes h = (place : ℕ) → ClashesHere m f modes (of_assumption place (assumption_in m.world.heap h))

-- so does each of them
abbrev pub AllHypsClash : Machine → Frame → Option (List Bool) → List Hyp → Type 0
AllHypsClash m f modes [] = Unit {0}
AllHypsClash m f modes (h ∷ hs) = HypClashes m f modes h × AllHypsClash m f modes hs

-- the loop over the clauses has come to this one: those of the constant before it clash
pub record IsTrying (p : Program) (m : Machine) (call : Call) (from i : ℕ) : Type 0 where
  pub clause : Clause
  pub here : slice_get p.clauses i ≡ Some clause
  pub headed : headed_by call.pred.0 clause.head ≡ true
  pub same : HasInputs call (modes_of p call.pred.0)
      → resolved_from m call.goal.now p.clauses call.pred.0 from (modes_of p call.pred.0) ≡ resolved_from m call.goal.now p.clauses call.pred.0 i (modes_of p call.pred.0)

-- the loop is at this clause, if there is one; else all clash
abbrev pub IsTryingNext : Program → Machine → Call → (from : ℕ) → Option ℕ → Type 0
IsTryingNext p m call from None = HasInputs call (modes_of p call.pred.0) → resolved_from m call.goal.now p.clauses call.pred.0 from (modes_of p call.pred.0) ≡ None
IsTryingNext p m call from (Some i) = IsTrying p m call from i
