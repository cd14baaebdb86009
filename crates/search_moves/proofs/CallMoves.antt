-- What calls of atoms and retries of clauses come to.
use Rattle.std.proofs.Common.{◌≡◌, ℕ, Bool, cond, List, [], ◌∷◌, map, length, Option, Some, None, eq-eqb, ne_eqb, sym, ap, ap₂, ◌∙◌, subst}
use Rattle.std.proofs.lemmas.List.{length-map}
use Rattle.level_terms.specs.Reading.{read}
use Rattle.beta_fragment.specs.Names.{names}
use Rattle.ref_terms.specs.declared.fault.Fault.{Fault}
use Rattle.ref_terms.specs.declared.fault.Fault.TheVariants.{Unknown, Arity}
use Rattle.ref_terms.specs.declared.sym.Sym.{Sym}
use Rattle.ref_terms.specs.terms.Term.{Term, Con}
use Rattle.ref_terms.specs.unification.Spine.{head_of}
use Rattle.ref_terms.specs.unification.Unification.{unify}
use Rattle.ref_terms.specs.search.Program.{Program, modes_of, constant_of}
use Rattle.ref_terms.specs.search.Fault.{Judged, Good, Bad}
use Rattle.ref_terms.specs.search.Strip.{BarriersFall}
use Rattle.ref_terms.specs.search.Formula.{Atom}
use Rattle.ref_terms.specs.search.Candidates.{candidates, assumptions_for, checked_arity, call_fault}
use Rattle.ref_terms.specs.search.State.{Candidate, Move, goes_on, faults}
use Rattle.ref_terms.specs.search.BranchMove.{fails, with_later, enters, calls}
use Rattle.ref_terms.specs.search.Resolve.{Resolved, resolve}
use Rattle.ref_terms.specs.search.Next.{retry, retaken, resolve_later, constant_modes}
use Rattle.search_moves.specs.declared.frame.Frame.{Frame}
use Rattle.search_moves.specs.declared.frame.Left.TheVariants.{Call as LeftCall}
use Rattle.search_moves.specs.declared.frame.Later.{Later}
use Rattle.search_moves.specs.declared.frame.Later.TheVariants.{Assumptions}
use Rattle.hyp_clause.specs.declared.hyp.Hyp.{Hyp}
use Rattle.hyp_clause.specs.Hyps.{assumption_in}
use Rattle.hyp_context.specs.Contexts.{hyps_for}
use Rattle.hyp_context.proofs.ContextLemmas.{for-read}
use Rattle.level_terms.specs.Graph.{Graph}
use Rattle.ref_terms.specs.search.Assumption.{Assumption}
use Rattle.search_moves.specs.declared.machine.Phase.TheVariants as phase
use Rattle.search_moves.specs.declared.machine.Event.TheVariants as event
use Rattle.search_moves.specs.Reading.{goal_in, left_at, saved_in, first_assumptions, later_of}
use Rattle.search_moves.specs.Machine.{Machine, branch_of, alternatives_of, rest_of, move_of, IsFirst, HasMoved}
use Rattle.search_moves.specs.Calling.{resolved_later, HasResolvedLater}
use Rattle.search_moves.proofs.EnterLemmas.{goals-are}
use Rattle.search_moves.proofs.MoveLemmas.{entered, failed, moved-as}
use Rattle.ref_terms.proofs.search.CountedMoves.{OutcomeFalls, resolve-falls}
use Rattle.ref_terms.proofs.search.KeptCounts.{falls-higher}

counted : (p : Program) (m : Machine) → length (alternatives_of p m) ≡ length m.saved
counted p m = length-map m.saved (saved_in p m.world)

-- no goal of the branch that a clause gives counts what is left of the call, where none of the call's own goals does
resolved-falls : (p : Program) (m : Machine) (f : Frame) (modes : Option (List Bool)) (cs : List Candidate) (r : Resolved) → IsFirst m f
    → resolve unify modes (branch_of m) (goal_in m.world.heap f) (rest_of m f) (length m.saved) cs ≡ Some (Good r)
    → BarriersFall (length (alternatives_of p m)) (branch_of m).goals → BarriersFall (length (alternatives_of p m)) r.branch.goals
resolved-falls p m f modes cs r first found falls =
    let n = length m.saved in
    let goal = goal_in m.world.heap f in
    let here : BarriersFall n (goal ∷ rest_of m f) = subst (BarriersFall n) (goals-are m f first) (subst (λ k. BarriersFall k (branch_of m).goals) (counted p m) falls) in
    let outcome : OutcomeFalls n (Some (Good r)) =
    subst (OutcomeFalls n) found (resolve-falls unify modes (branch_of m) goal (rest_of m f) n cs (falls-higher goal.barrier n (rest_of m f) here.0 here.1)) in
    subst (λ k. BarriersFall k r.branch.goals) (sym (counted p m)) outcome

-- the assumptions of the first goal
pub assumed-first : (m : Machine) (f : Frame) → IsFirst m f → first_assumptions (branch_of m).goals ≡ map (assumption_in m.world.heap) f.context
assumed-first m f first = ap first_assumptions (goals-are m f first)

-- a call that is no fault
pub call-is : (p : Program) (m : Machine) (f : Frame) (c : ℕ) (ts : List Term) (hs : List Hyp) → IsFirst m f → call_fault p c ts (map (assumption_in m.world.heap) f.context) ≡ None
    → move_of p m f (Atom c ts) ≡ enters (branch_of m) (alternatives_of p m) (resolved_later p m f c (Assumptions 0 hs) (modes_of p c))
call-is p m f c ts hs first known =
    ap (calls unify p c (branch_of m) (goal_in m.world.heap f) (rest_of m f) (alternatives_of p m)) known
    ∙ ap (λ n. enters (branch_of m) (alternatives_of p m) (resolve unify (modes_of p c) (branch_of m) (goal_in m.world.heap f) (rest_of m f) n (candidates p c (map (assumption_in m.world.heap) f.context)))) (counted p m)
    ∙ ap (λ gs. enters (branch_of m) (alternatives_of p m) (resolve unify (modes_of p c) (branch_of m) (goal_in m.world.heap f) (rest_of m f) (length m.saved) (later_of p gs c (Assumptions 0 hs)))) (sym (goals-are m f first))

-- a predicate with its number of arguments, or one that is assumed
pub stated-known : (p : Program) (c : ℕ) (ts : List Term) (assumed : List Assumption) (ms : List Bool) → modes_of p c ≡ Some ms → length ts ≡ length ms → call_fault p c ts assumed ≡ None
stated-known p c ts assumed ms known long =
    ap (λ o. checked_arity (length ts) o (assumptions_for c assumed)) known ∙ ap (λ b. cond {A = Option Fault} b None (Some Arity)) (eq-eqb (length ts) (length ms) long)

pub assumed-known : (p : Program) (c : ℕ) (ts : List Term) (g : Graph) (hs : List Hyp) (h : Hyp) (others : List Hyp) → modes_of p c ≡ None → hyps_for c hs ≡ h ∷ others → call_fault p c ts (map (assumption_in g) hs) ≡ None
assumed-known p c ts g hs h others none some =
    ap₂ (checked_arity (length ts)) none (sym (for-read g c hs) ∙ ap (map (assumption_in g)) some)

-- of another number of arguments
pub call-arity : (p : Program) (m : Machine) (f : Frame) (c : ℕ) (ts : List Term) (ms : List Bool) → modes_of p c ≡ Some ms → (length ts ≡ length ms → ⊥) → move_of p m f (Atom c ts) ≡ faults Arity
call-arity p m f c ts ms known other =
    let assumed = map (assumption_in m.world.heap) f.context in
    let arity : call_fault p c ts assumed ≡ Some Arity =
    ap (λ o. checked_arity (length ts) o (assumptions_for c assumed)) known ∙ ap (λ b. cond {A = Option Fault} b None (Some Arity)) (ne_eqb (length ts) (length ms) other) in
    ap (calls unify p c (branch_of m) (goal_in m.world.heap f) (rest_of m f) (alternatives_of p m)) arity

-- of a constant that is no predicate
pub call-unknown : (p : Program) (m : Machine) (f : Frame) (c : ℕ) (ts : List Term) → modes_of p c ≡ None → hyps_for c f.context ≡ [] → move_of p m f (Atom c ts) ≡ faults Unknown
call-unknown p m f c ts none empty =
    let unknown : call_fault p c ts (map (assumption_in m.world.heap) f.context) ≡ Some Unknown =
    ap₂ (checked_arity (length ts)) none (sym (for-read m.world.heap c f.context) ∙ ap (map (assumption_in m.world.heap)) empty) in
    ap (calls unify p c (branch_of m) (goal_in m.world.heap f) (rest_of m f) (alternatives_of p m)) unknown

module _ (p : Program) (m new : Machine) (f : Frame) (c : ℕ) (ts : List Term) (hs : List Hyp) (first : IsFirst m f) (known : call_fault p c ts (map (assumption_in m.world.heap) f.context) ≡ None) where
  pub call-fits : HasResolvedLater p m new f c (Assumptions 0 hs) (modes_of p c) → new.phase ≡ phase.Running → HasMoved p (move_of p m f (Atom c ts)) event.Moved new
  call-fits r running =
      moved-as p (move_of p m f (Atom c ts)) (goes_on r.resolved.branch (with_later (branch_of m) r.resolved.later (alternatives_of p m))) event.Moved new
      (call-is p m f c ts hs first known ∙ ap (enters (branch_of m) (alternatives_of p m)) r.found)
      (entered p new (branch_of m) r.resolved (alternatives_of p m)
      (resolved-falls p m f (modes_of p c) (later_of p (branch_of m).goals c (Assumptions 0 hs)) r.resolved first r.found) running r.branch r.alternatives)

  pub call-fails : resolved_later p m f c (Assumptions 0 hs) (modes_of p c) ≡ None → new.phase ≡ phase.Failed → alternatives_of p new ≡ alternatives_of p m → HasMoved p (move_of p m f (Atom c ts)) event.Moved new
  call-fails none ended others =
      moved-as p (move_of p m f (Atom c ts)) (fails (alternatives_of p m)) event.Moved new
      (call-is p m f c ts hs first known ∙ ap (enters (branch_of m) (alternatives_of p m)) none) (failed p new (alternatives_of p m) ended others)

  pub call-faults : (e : Fault) → resolved_later p m f c (Assumptions 0 hs) (modes_of p c) ≡ Some (Bad e) → move_of p m f (Atom c ts) ≡ faults e
  call-faults e bad = call-is p m f c ts hs first known ∙ ap (enters (branch_of m) (alternatives_of p m)) bad

-- the retry of an alternative of a call, by the first goal
pub retry-is : (p : Program) (m : Machine) (f : Frame) (c : Sym) (later : Later) → IsFirst m f → head_of (read m.world.heap f.term.index names) ≡ Some (Con c.0)
    → retry unify p (left_at p (branch_of m) (LeftCall c later) ∷ alternatives_of p m)
    ≡ retaken (branch_of m) (alternatives_of p m) (retry unify p (alternatives_of p m)) (resolved_later p m f c.0 later (modes_of p c.0))
retry-is p m f c later first head =
    let b = branch_of m in
    let alts = alternatives_of p m in
    let cs = later_of p b.goals c.0 later in
    let after : Option (Judged Resolved) → Move = retaken b alts (retry unify p alts) in
    ap (λ gs. after (resolve_later unify p b (length alts) cs gs)) (goals-are m f first)
    ∙ ap (λ o. after (resolve unify (constant_modes p (constant_of o)) b (goal_in m.world.heap f) (rest_of m f) (length alts) cs)) head
    ∙ ap (λ n. after (resolve unify (modes_of p c.0) b (goal_in m.world.heap f) (rest_of m f) n cs)) (counted p m)

module _ (p : Program) (m new : Machine) (f : Frame) (c : Sym) (later : Later) (first : IsFirst m f) (head : head_of (read m.world.heap f.term.index names) ≡ Some (Con c.0)) where
  pub retry-fits : HasResolvedLater p m new f c.0 later (modes_of p c.0) → new.phase ≡ phase.Running → HasMoved p (retry unify p (left_at p (branch_of m) (LeftCall c later) ∷ alternatives_of p m)) event.Moved new
  retry-fits r running =
      moved-as p (retry unify p (left_at p (branch_of m) (LeftCall c later) ∷ alternatives_of p m)) (goes_on r.resolved.branch (with_later (branch_of m) r.resolved.later (alternatives_of p m))) event.Moved new
      (retry-is p m f c later first head ∙ ap (retaken (branch_of m) (alternatives_of p m) (retry unify p (alternatives_of p m))) r.found)
      (entered p new (branch_of m) r.resolved (alternatives_of p m)
      (resolved-falls p m f (modes_of p c.0) (later_of p (branch_of m).goals c.0 later) r.resolved first r.found) running r.branch r.alternatives)

  pub retry-fails : resolved_later p m f c.0 later (modes_of p c.0) ≡ None → retry unify p (left_at p (branch_of m) (LeftCall c later) ∷ alternatives_of p m) ≡ retry unify p (alternatives_of p m)
  retry-fails none = retry-is p m f c later first head ∙ ap (retaken (branch_of m) (alternatives_of p m) (retry unify p (alternatives_of p m))) none

  pub retry-faults : (e : Fault) → resolved_later p m f c.0 later (modes_of p c.0) ≡ Some (Bad e) → retry unify p (left_at p (branch_of m) (LeftCall c later) ∷ alternatives_of p m) ≡ faults e
  retry-faults e bad = retry-is p m f c later first head ∙ ap (retaken (branch_of m) (alternatives_of p m) (retry unify p (alternatives_of p m))) bad
