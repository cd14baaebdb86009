-- Stripping leaves alike states alike.
use Rattle.std.proofs.Common.{◌≡◌, ℕ, zero, suc, Bool, true, false, cond, not, List, [], ◌∷◌, map, length, filter, refl, sym, ap, ap₂, ◌∙◌, subst, Option}
use mathlib.Core.Path.{fun_ext}
use Rattle.ref_terms.specs.unification.Spine.{head_of}
use Rattle.ref_terms.specs.unification.Unification.{Unification}
use Rattle.ref_terms.specs.search.Program.{Program, QueryVar, constant_of}
use Rattle.ref_terms.specs.search.Branch.{Goal, Branch}
use Rattle.ref_terms.specs.search.State.{Candidate, Alternative, later_clauses, other_side, Event, State, Running, Ended, Over}
use Rattle.ref_terms.specs.search.Resolve.{Tried, Fits, Clashes, Breaks, try}
use Rattle.ref_terms.specs.search.BranchMove.{cut_to}
use Rattle.ref_terms.specs.search.Next.{constant_modes, next}
use Rattle.ref_terms.specs.search.Events.{events}
use Rattle.ref_terms.specs.search.Renamed.{goal_vars, branch_vars, candidate_vars, alternative_vars, branch_of}
use Rattle.ref_terms.specs.search.Alike.{IsRenamingAt, RenamedBranch, RenamedAlternative, RenamedState, Each, unchanged, step, back, through, AlikeState, AlikeEvent, shown}
use Rattle.ref_terms.specs.search.Strip.{recounted, with_barriers, is_clash, clashes_at, is_open, is_kept, kept_of, stripped, strip_all, strip, IsCounted, AlikeOnceStripped}
use Rattle.ref_terms.proofs.search.ListVars.{map-square, filter-vars, any-vars}
use Rattle.ref_terms.proofs.search.TermVars.{constant-vars}
use Rattle.ref_terms.proofs.search.Fair.{IsFair}
use Rattle.ref_terms.proofs.search.ResolveVars.{RenamedTried, try-vars}
use Rattle.ref_terms.proofs.search.AlikeFacts.{cut-renamed}
use Rattle.ref_terms.proofs.search.AlikeRuns.{next-alike, alike-shown, following-shown}
use Rattle.ref_terms.proofs.search.CountedMoves.{next-counted}
use Rattle.ref_terms.proofs.search.StripMoves.{next-strips}

tried-clash : (p : ℕ → ℕ) (lo : ℕ) (x y : Tried) → RenamedTried p lo x y → is_clash y ≡ is_clash x
tried-clash p lo (Fits b) (Fits c) w = refl
tried-clash p lo Clashes Clashes w = refl
tried-clash p lo (Breaks e) (Breaks f) w = refl
tried-clash p lo (Fits b) Clashes w = elim w [ ]
tried-clash p lo (Fits b) (Breaks f) w = refl
tried-clash p lo Clashes (Fits c) w = elim w [ ]
tried-clash p lo Clashes (Breaks f) w = elim w [ ]
tried-clash p lo (Breaks e) (Fits c) w = refl
tried-clash p lo (Breaks e) Clashes w = elim w [ ]

module _ (unify : Unification) (fair : IsFair unify) (program : Program) where
  module _ (p : ℕ → ℕ) (b : Branch) (good : IsRenamingAt b.next_var p) where
    clashes-vars : (gs : List Goal) (c : Candidate) → clashes_at unify program (branch_vars p b) (map (goal_vars p) gs) (candidate_vars p c) ≡ clashes_at unify program b gs c
    clashes-vars [] c = refl
    clashes-vars (g ∷ gs) c =
        let modes = constant_modes program (constant_of (head_of g.term)) in
        ap (λ (o : Option ℕ). is_clash (try unify (constant_modes program o) (branch_vars p b) (goal_vars p g) (map (goal_vars p) gs) 0 (candidate_vars p c))) (constant-vars p g.term)
        ∙ tried-clash p b.next_var (try unify modes b g gs 0 c) (try unify modes (branch_vars p b) (goal_vars p g) (map (goal_vars p) gs) 0 (candidate_vars p c)) (try-vars unify fair p b good modes g gs 0 c)

    open-vars : (c : Candidate) → is_open unify program (branch_vars p b) (candidate_vars p c) ≡ is_open unify program b c
    open-vars c = ap not (clashes-vars b.goals c)

  kept-vars : (x : Alternative) (p : ℕ → ℕ) → IsRenamingAt (branch_of x).next_var p → is_kept unify program (alternative_vars p x) ≡ is_kept unify program x
  kept-vars (other_side b) p good = refl
  kept-vars (later_clauses b cs) p good = any-vars (candidate_vars p) (is_open unify program b) (is_open unify program (branch_vars p b)) (open-vars p b good) cs

  kept-renamed : (x y : Alternative) → RenamedAlternative x y → is_kept unify program y ≡ is_kept unify program x
  kept-renamed x y w = ap (is_kept unify program) w.same ∙ kept-vars x w.renaming w.good

  count-renamed : (xs ys : List Alternative) → Each RenamedAlternative xs ys → length (filter (is_kept unify program) ys) ≡ length (filter (is_kept unify program) xs)
  count-renamed [] [] w = refl
  count-renamed (x ∷ xs) (y ∷ ys) w = ap (λ (b : Bool). length (cond b (y ∷ filter (is_kept unify program) ys) (filter (is_kept unify program) ys))) (kept-renamed x y w.0) ∙ go (is_kept unify program x) (count-renamed xs ys w.1)
    where
      go : (b : Bool) → length (filter (is_kept unify program) ys) ≡ length (filter (is_kept unify program) xs) → length (cond b (y ∷ filter (is_kept unify program) ys) (filter (is_kept unify program) ys)) ≡ length (cond b (x ∷ filter (is_kept unify program) xs) (filter (is_kept unify program) xs))
      go true e = ap suc e
      go false e = e
  count-renamed [] (y ∷ ys) w = elim w [ ]
  count-renamed (x ∷ xs) [] w = elim w [ ]

  counts-renamed : (xs ys : List Alternative) → Each RenamedAlternative xs ys → kept_of unify program ys ≡ kept_of unify program xs
  counts-renamed xs ys w = fun_ext (λ n. count-renamed (cut_to n xs) (cut_to n ys) (cut-renamed n xs ys w))

  barriers-vars : (p f : ℕ → ℕ) (b : Branch) → with_barriers f (branch_vars p b) ≡ branch_vars p (with_barriers f b)
  barriers-vars p f b = λ i. record (branch_vars p b) { goals = map-square (recounted f) (goal_vars p) (goal_vars p) (recounted f) (λ g. refl) b.goals i }

  branch-strips : (f g : ℕ → ℕ) → g ≡ f → (b c : Branch) → RenamedBranch b c → RenamedBranch (with_barriers f b) (with_barriers g c)
  branch-strips f g e b c w = record { renaming = w.renaming; good = w.good; same = ap₂ with_barriers e w.same ∙ barriers-vars w.renaming f b }

  stripped-vars : (xs ys : List Alternative) → Each RenamedAlternative xs ys → (x : Alternative) (p : ℕ → ℕ) → IsRenamingAt (branch_of x).next_var p → RenamedAlternative (stripped unify program xs x) (stripped unify program ys (alternative_vars p x))
  stripped-vars xs ys v (other_side b) p good = record { renaming = p; good = good; same = ap (λ (g : ℕ → ℕ). other_side (with_barriers g (branch_vars p b))) (counts-renamed xs ys v) ∙ ap other_side (barriers-vars p (kept_of unify program xs) b) }
  stripped-vars xs ys v (later_clauses b cs) p good = record {
    renaming = p;
    good = good;
    same = ap₂ later_clauses
        (ap (λ (g : ℕ → ℕ). with_barriers g (branch_vars p b)) (counts-renamed xs ys v) ∙ barriers-vars p (kept_of unify program xs) b)
        (filter-vars (candidate_vars p) (is_open unify program b) (is_open unify program (branch_vars p b)) (open-vars p b good) cs);
  }

  strip-each : (xs ys : List Alternative) → Each RenamedAlternative xs ys → Each RenamedAlternative (strip_all unify program xs) (strip_all unify program ys)
  strip-each [] [] w = tt
  strip-each (x ∷ xs) (y ∷ ys) w =
      subst (λ (b : Bool). Each RenamedAlternative (strip_all unify program (x ∷ xs)) (cond b (stripped unify program ys y ∷ strip_all unify program ys) (strip_all unify program ys))) (sym (kept-renamed x y w.0))
      (go (is_kept unify program x)
      (subst (λ (z : Alternative). RenamedAlternative (stripped unify program xs x) (stripped unify program ys z)) (sym w.0.same) (stripped-vars xs ys w.1 x w.0.renaming w.0.good))
      (strip-each xs ys w.1))
    where
      go : (b : Bool) → RenamedAlternative (stripped unify program xs x) (stripped unify program ys y) → Each RenamedAlternative (strip_all unify program xs) (strip_all unify program ys)
          → Each RenamedAlternative (cond b (stripped unify program xs x ∷ strip_all unify program xs) (strip_all unify program xs)) (cond b (stripped unify program ys y ∷ strip_all unify program ys) (strip_all unify program ys))
      go true v k = (v, k)
      go false v k = k
  strip-each [] (y ∷ ys) w = elim w [ ]
  strip-each (x ∷ xs) [] w = elim w [ ]

  strip-renamed : (s t : State) → RenamedState s t → RenamedState (strip unify program s) (strip unify program t)
  strip-renamed (Running b xs) (Running c ys) w = (branch-strips (kept_of unify program xs) (kept_of unify program ys) (counts-renamed xs ys w.1) b c w.0, strip-each xs ys w.1)
  strip-renamed (Ended b xs) (Ended c ys) w = (w.0, strip-each xs ys w.1)
  strip-renamed (Over e) (Over f) w = w
  strip-renamed (Running b xs) (Ended c ys) w = elim w [ ]
  strip-renamed (Running b xs) (Over f) w = elim w [ ]
  strip-renamed (Ended b xs) (Running c ys) w = elim w [ ]
  strip-renamed (Ended b xs) (Over f) w = elim w [ ]
  strip-renamed (Over e) (Running c ys) w = elim w [ ]
  strip-renamed (Over e) (Ended c ys) w = elim w [ ]

  pub strip-alike : (s t : State) → AlikeState s t → AlikeOnceStripped unify program s t
  strip-alike s t unchanged = unchanged
  strip-alike s t (step w) = step (strip-renamed s t w)
  strip-alike s t (back w) = back (strip-alike t s w)
  strip-alike s t (through w v) = through (strip-alike s _ w) (strip-alike _ t v)

  -- states that are alike once stripped move alike
  pub stripped-alike : (s t : State) → IsCounted s → IsCounted t → AlikeOnceStripped unify program s t
      → AlikeEvent (next unify program s).event (next unify program t).event × AlikeOnceStripped unify program (next unify program s).state (next unify program t).state
  stripped-alike s t v u w =
      let m = next-alike unify fair program (strip unify program s) (strip unify program t) w in
      let left = next-strips unify program s v in
      let right = next-strips unify program t u in (
        subst (λ (e : Event). AlikeEvent e (next unify program t).event) left.0 (subst (λ (e : Event). AlikeEvent (next unify program (strip unify program s)).event e) right.0 m.0),
        subst (λ (z : State). AlikeState z (strip unify program (next unify program t).state)) left.1
            (subst (λ (z : State). AlikeState (strip unify program (next unify program (strip unify program s)).state) z) right.1
            (strip-alike (next unify program (strip unify program s)).state (next unify program (strip unify program t)).state m.1)),
      )

  pub stripped-events : (variables : List QueryVar) (n : ℕ) (s t : State) → IsCounted s → IsCounted t → AlikeOnceStripped unify program s t
      → map (shown program.symbols variables) (events unify program n s) ≡ map (shown program.symbols variables) (events unify program n t)
  stripped-events variables zero s t v u w = refl
  stripped-events variables (suc n) s t v u w =
      let m = stripped-alike s t v u w in
      following-shown program.symbols variables (events unify program n) (events unify program n) _ _ _ _ (alike-shown program.symbols variables _ _ m.0)
      (stripped-events variables n _ _ (next-counted unify program s v) (next-counted unify program t u) m.1)
