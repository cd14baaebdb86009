-- States without an alternative that is left out.
use Rattle.std.proofs.Common.{◌≡◌, ℕ, zero, suc, false, cond, List, ◌∷◌, length, refl, sym, ap, ap₂, ◌∙◌, subst}
use Rattle.ref_terms.specs.unification.Unification.{unify}
use Rattle.ref_terms.specs.search.Program.{Program}
use Rattle.ref_terms.specs.search.Branch.{Goal, Branch}
use Rattle.ref_terms.specs.search.State.{Alternative, Event, Moved, Printed, Answered, Failure, Faulted, State, Running}
use Rattle.ref_terms.specs.search.Next.{next}
use Rattle.ref_terms.specs.search.Events.{following, events}
use Rattle.ref_terms.specs.search.Strip.{with_barriers, is_kept, kept_of, stripped, strip_all, strip, BarriersFall, AreCounted, IsCounted}
use Rattle.ref_terms.proofs.search.KeptCounts.{falls-map, kept-low}
use Rattle.ref_terms.proofs.search.StripMoves.{next-strips}
use Rattle.ref_terms.proofs.search.CountedMoves.{next-counted}
use Rattle.search_moves.specs.Machine.{LeavesOut, whole, leaner}
use Rattle.search_moves.specs.Laws.{LeanStatesShowTheSame}

-- what comes after equal events
following-same : (later : State → List Event) (e f : Event) (s t : State) → e ≡ f → later s ≡ later t → following later e s ≡ following later f t
following-same later e f s t same rest = by e rest ∙ ap (λ x. following later x t) same
  where
    by : (x : Event) → later s ≡ later t → following later x s ≡ following later x t
    by Moved r = ap (λ (xs : List Event). Moved ∷ xs) r
    by (Printed text) r = ap (λ (xs : List Event). Printed text ∷ xs) r
    by (Answered b) r = ap (λ (xs : List Event). Answered b ∷ xs) r
    by Failure r = refl
    by (Faulted f) r = refl

module _ (p : Program) where
  -- barriers that don't count the newest alternative
  branch-strips : (b : Branch) (x : Alternative) (xs : List Alternative) → BarriersFall (length xs) b.goals → with_barriers (kept_of unify p (x ∷ xs)) b ≡ with_barriers (kept_of unify p xs) b
  branch-strips b x xs falls =
      ap (λ (gs : List Goal). record b { goals = gs }) (falls-map (kept_of unify p (x ∷ xs)) (kept_of unify p xs) (length xs) b.goals falls (λ n low. kept-low unify p n x xs low))

  -- stripping leaves an alternative out that isn't kept
  state-strips : (b : Branch) (x : Alternative) (xs : List Alternative) → is_kept unify p x ≡ false → BarriersFall (length xs) b.goals → strip unify p (Running b (x ∷ xs)) ≡ strip unify p (Running b xs)
  state-strips b x xs clash falls =
      ap₂ (λ (c : Branch) (ys : List Alternative). Running c ys) (branch-strips b x xs falls) (ap (λ k. cond k (stripped unify p xs x ∷ strip_all unify p xs) (strip_all unify p xs)) clash)

  pub out-strips : (s t : State) → IsCounted s → LeavesOut p s t → IsCounted t × (strip unify p s ≡ strip unify p t)
  out-strips s t counted o =
      let xs = o.older in
      let c : IsCounted (Running o.branch (o.alternative ∷ xs)) = subst IsCounted o.before counted in
      let d : AreCounted (o.alternative ∷ xs) = c.1 in
      let falls : BarriersFall (length xs) o.branch.goals = o.uncounted d.0 in
      let older : AreCounted xs = d.1 in
      let here : IsCounted (Running o.branch xs) = (falls, older) in
      (subst IsCounted (sym o.after) here, ap (strip unify p) o.before ∙ state-strips o.branch o.alternative xs o.clashes falls ∙ ap (strip unify p) (sym o.after))

  -- states that are equal once stripped show the same
  pub stripped-show : (n : ℕ) (s t : State) → IsCounted s → IsCounted t → strip unify p s ≡ strip unify p t → events unify p n s ≡ events unify p n t
  stripped-show zero s t c d e = refl
  stripped-show (suc n) s t c d e =
      let a = next-strips unify p s c in
      let b = next-strips unify p t d in
      following-same (events unify p n) (next unify p s).event (next unify p t).event (next unify p s).state (next unify p t).state
      (sym a.0 ∙ ap (λ z. (next unify p z).event) e ∙ b.0)
      (stripped-show n (next unify p s).state (next unify p t).state (next-counted unify p s c) (next-counted unify p t d) (sym a.1 ∙ ap (λ z. strip unify p (next unify p z).state) e ∙ b.1))

pub lean-shows : LeanStatesShowTheSame
lean-shows p s t counted (whole e) = (subst IsCounted (sym e) counted, λ n. ap (events unify p n) e)
lean-shows p s t counted (leaner o) = let w = out-strips p s t counted o in (w.0, λ n. sym (stripped-show p n s t counted w.0 w.1))
