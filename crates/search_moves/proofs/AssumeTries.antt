-- The loop over the assumptions of a call.
use Rattle.std.proofs.Common.{◌≡◌, ℕ, suc, Bool, List, [], ◌∷◌, length, drop, Option, refl, ap, ◌∙◌}
use Rattle.beta_fragment.specs.declared.answer.UnifyStop.{UnifyStop}
use Rattle.beta_fragment.specs.declared.answer.UnifyStop.TheVariants.{Fault, Memory}
use Rattle.hyp_clause.specs.declared.hyp.Hyp.{Hyp}
use Rattle.hyp_clause.specs.Hyps.{assumption_in}
use Rattle.hyp_context.specs.Contexts.{hyps_for}
use Rattle.ref_terms.specs.search.Program.{Program}
use Rattle.ref_terms.specs.search.Fault.{Judged}
use Rattle.ref_terms.specs.search.State.{of_assumption}
use Rattle.ref_terms.specs.search.Resolve.{Resolved, Clashes, resolve, decided}
use Rattle.ref_terms.specs.unification.Unification.{unify}
use Rattle.search_moves.specs.declared.frame.Frame.{Frame}
use Rattle.search_moves.specs.declared.frame.Later.TheVariants.{Assumptions, Clauses}
use Rattle.search_moves.specs.Reading.{goal_in, later_of}
use Rattle.search_moves.specs.Machine.{Machine, branch_of, rest_of, IsFirst}
use Rattle.search_moves.specs.Calling.{tried_here, HasEntered, BreaksSo, ResolvedStops, resolved_later, HasResolvedLater, HasResolved}
use Rattle.search_moves.proofs.AssumedLemmas.{later-at, later-none}
use Rattle.search_moves.proofs.CallMoves.{assumed-first}

module _ (p : Program) (m : Machine) (f : Frame) (first : IsFirst m f) (c : ℕ) (modes : Option (List Bool)) (i : ℕ) (h : Hyp) (others l k : List Hyp) (there : drop i (hyps_for c f.context) ≡ h ∷ others) where
  -- the assumption is tried next
  assumed-next : resolved_later p m f c (Assumptions i l) modes
      ≡ decided (later_of p (branch_of m).goals c (Assumptions (suc i) others)) (resolved_later p m f c (Assumptions (suc i) k) modes) (tried_here m f modes (of_assumption i (assumption_in m.world.heap h)))
  assumed-next =
      ap (resolve unify modes (branch_of m) (goal_in m.world.heap f) (rest_of m f) (length m.saved)) (later-at p m.world.heap (branch_of m).goals c i f.context h others l others (assumed-first m f first) there)

  pub assumed-clashes : tried_here m f modes (of_assumption i (assumption_in m.world.heap h)) ≡ Clashes → resolved_later p m f c (Assumptions i l) modes ≡ resolved_later p m f c (Assumptions (suc i) k) modes
  assumed-clashes clash =
      assumed-next ∙ ap (decided (later_of p (branch_of m).goals c (Assumptions (suc i) others)) (resolved_later p m f c (Assumptions (suc i) k) modes)) clash

  pub assumed-fits : (new : Machine) → HasEntered p m new f modes (of_assumption i (assumption_in m.world.heap h)) (later_of p (branch_of m).goals c (Assumptions (suc i) others))
      → HasResolvedLater p m new f c (Assumptions i l) modes
  assumed-fits new entered = record {
    resolved = record { branch = branch_of new; later = later_of p (branch_of m).goals c (Assumptions (suc i) others) };
    found = assumed-next ∙ ap (decided (later_of p (branch_of m).goals c (Assumptions (suc i) others)) (resolved_later p m f c (Assumptions (suc i) k) modes)) entered.fits;
    branch = refl;
    alternatives = entered.alternatives;
  }

  pub assumed-breaks : (stop : UnifyStop) → BreaksSo (tried_here m f modes (of_assumption i (assumption_in m.world.heap h))) stop → ResolvedStops (resolved_later p m f c (Assumptions i l) modes) stop
  assumed-breaks (Fault e) broken = assumed-next ∙ ap (decided (later_of p (branch_of m).goals c (Assumptions (suc i) others)) (resolved_later p m f c (Assumptions (suc i) k) modes)) broken
  assumed-breaks Memory broken = tt

-- where none is left, the program's clauses decide
pub assumed-ends : (p : Program) (m : Machine) (f : Frame) (c : ℕ) (modes : Option (List Bool)) (i : ℕ) (l : List Hyp) → IsFirst m f → drop i (hyps_for c f.context) ≡ []
    → resolved_later p m f c (Assumptions i l) modes ≡ resolved_later p m f c (Clauses 0) modes
assumed-ends p m f c modes i l first none =
    ap (resolve unify modes (branch_of m) (goal_in m.world.heap f) (rest_of m f) (length m.saved)) (later-none p m.world.heap (branch_of m).goals c i f.context l (assumed-first m f first) none)

-- what follows from an earlier place
pub resolved-before : (p : Program) (m new : Machine) (f : Frame) (c : ℕ) (modes : Option (List Bool)) (i j : ℕ) (l k : List Hyp) → resolved_later p m f c (Assumptions i l) modes ≡ resolved_later p m f c (Assumptions j k) modes
    → HasResolvedLater p m new f c (Assumptions j k) modes → HasResolvedLater p m new f c (Assumptions i l) modes
resolved-before p m new f c modes i j l k e r = record { resolved = r.resolved; found = e ∙ r.found; branch = r.branch; alternatives = r.alternatives }

pub resolved-program : (p : Program) (m new : Machine) (f : Frame) (c : ℕ) (modes : Option (List Bool)) (i : ℕ) (l : List Hyp) → resolved_later p m f c (Assumptions i l) modes ≡ resolved_later p m f c (Clauses 0) modes
    → HasResolved p m new f c 0 modes → HasResolvedLater p m new f c (Assumptions i l) modes
resolved-program p m new f c modes i l e r = record { resolved = r.resolved; found = e ∙ r.found; branch = r.branch; alternatives = r.alternatives }

pub stops-before : (a b : Option (Judged Resolved)) (stop : UnifyStop) → a ≡ b → ResolvedStops b stop → ResolvedStops a stop
stops-before a b (Fault e) same h = same ∙ h
stops-before a b Memory same h = tt
