-- Alike states, and what they write.
use Rattle.std.proofs.Common.{◌≡◌, ℕ, zero, suc, List, [], ◌∷◌, map, refl, sym, ap, ap₂, ◌∙◌}
use mathlib.Core.Path.{fun_ext}
use Rattle.ref_terms.specs.unification.Unification.{Unification}
use Rattle.ref_terms.specs.search.Program.{Program, QueryVar}
use Rattle.ref_terms.specs.search.Branch.{Branch}
use Rattle.ref_terms.specs.search.State.{Event, Moved, Printed, Answered, Failure, Faulted, State}
use Rattle.ref_terms.specs.search.Next.{next}
use Rattle.ref_terms.specs.search.Events.{following, events}
use Rattle.ref_terms.specs.search.Alike.{RenamedBranch, RenamedEvent, unchanged, step, back, through, AlikeState, AlikeEvent, AlikeMove, Shown, answer, shown}
use Rattle.ref_terms.specs.texts.Answer.{answer_block, path_line}
use Rattle.ref_terms.proofs.search.Fair.{IsFair}
use Rattle.ref_terms.proofs.search.AnswerVars.{block-vars}
use Rattle.ref_terms.proofs.search.NextVars.{next-renamed}

module _ (unify : Unification) (fair : IsFair unify) (program : Program) where
  pub next-alike : (s t : State) → AlikeState s t → AlikeMove (next unify program s) (next unify program t)
  next-alike s t unchanged = (unchanged, unchanged)
  next-alike s t (step w) = let m = next-renamed unify fair program s t w in (step m.0, step m.1)
  next-alike s t (back w) = let m = next-alike t s w in (back m.0, back m.1)
  next-alike s t (through w v) = let m = next-alike s _ w in let n = next-alike _ t v in (through m.0 n.0, through m.1 n.1)

module _ (table : List (List ℕ)) (variables : List QueryVar) where
  answer-shown : (b c : Branch) → RenamedBranch b c → shown table variables (Answered b) ≡ shown table variables (Answered c)
  answer-shown b c w =
      ap₂ answer
      (fun_ext (λ number. sym (ap (answer_block table variables number) w.same ∙ block-vars w.renaming table w.good.good.one_to_one variables number b)))
      (ap (λ (d : Branch). path_line d.path) (sym w.same))

  renamed-shown : (e f : Event) → RenamedEvent e f → shown table variables e ≡ shown table variables f
  renamed-shown (Answered b) (Answered c) w = answer-shown b c w
  renamed-shown (Answered b) Moved w = elim w [ ]
  renamed-shown (Answered b) (Printed t) w = elim w [ ]
  renamed-shown (Answered b) Failure w = elim w [ ]
  renamed-shown (Answered b) (Faulted f) w = elim w [ ]
  renamed-shown Moved (Answered c) w = elim w [ ]
  renamed-shown (Printed t) (Answered c) w = elim w [ ]
  renamed-shown Failure (Answered c) w = elim w [ ]
  renamed-shown (Faulted f) (Answered c) w = elim w [ ]
  renamed-shown Moved Moved w = ap (shown table variables) w
  renamed-shown Moved (Printed u) w = ap (shown table variables) w
  renamed-shown Moved Failure w = ap (shown table variables) w
  renamed-shown Moved (Faulted g) w = ap (shown table variables) w
  renamed-shown (Printed t) Moved w = ap (shown table variables) w
  renamed-shown (Printed t) (Printed u) w = ap (shown table variables) w
  renamed-shown (Printed t) Failure w = ap (shown table variables) w
  renamed-shown (Printed t) (Faulted g) w = ap (shown table variables) w
  renamed-shown Failure Moved w = ap (shown table variables) w
  renamed-shown Failure (Printed u) w = ap (shown table variables) w
  renamed-shown Failure Failure w = ap (shown table variables) w
  renamed-shown Failure (Faulted g) w = ap (shown table variables) w
  renamed-shown (Faulted d) Moved w = ap (shown table variables) w
  renamed-shown (Faulted d) (Printed u) w = ap (shown table variables) w
  renamed-shown (Faulted d) Failure w = ap (shown table variables) w
  renamed-shown (Faulted d) (Faulted g) w = ap (shown table variables) w

  pub alike-shown : (e f : Event) → AlikeEvent e f → shown table variables e ≡ shown table variables f
  alike-shown e f unchanged = refl
  alike-shown e f (step w) = renamed-shown e f w
  alike-shown e f (back w) = sym (alike-shown f e w)
  alike-shown e f (through w v) = alike-shown e _ w ∙ alike-shown _ f v

  -- after events that show the same: none follows a failure or a fault
  pub following-shown : (later later' : State → List Event) (e f : Event) (s t : State) → shown table variables e ≡ shown table variables f
      → map (shown table variables) (later s) ≡ map (shown table variables) (later' t)
      → map (shown table variables) (following later e s) ≡ map (shown table variables) (following later' f t)
  following-shown later later' Moved Moved v w h k = ap₂ (λ (x : Shown) (xs : List Shown). x ∷ xs) h k
  following-shown later later' Moved (Printed u) v w h k = absurd (let z : shown table variables Moved ≡ shown table variables (Printed u) = h in cc)
  following-shown later later' Moved (Answered c) v w h k = absurd (let z : shown table variables Moved ≡ shown table variables (Answered c) = h in cc)
  following-shown later later' Moved Failure v w h k = absurd (let z : shown table variables Moved ≡ shown table variables Failure = h in cc)
  following-shown later later' Moved (Faulted g) v w h k = absurd (let z : shown table variables Moved ≡ shown table variables (Faulted g) = h in cc)
  following-shown later later' (Printed t) Moved v w h k = absurd (let z : shown table variables (Printed t) ≡ shown table variables Moved = h in cc)
  following-shown later later' (Printed t) (Printed u) v w h k = ap₂ (λ (x : Shown) (xs : List Shown). x ∷ xs) h k
  following-shown later later' (Printed t) (Answered c) v w h k = absurd (let z : shown table variables (Printed t) ≡ shown table variables (Answered c) = h in cc)
  following-shown later later' (Printed t) Failure v w h k = absurd (let z : shown table variables (Printed t) ≡ shown table variables Failure = h in cc)
  following-shown later later' (Printed t) (Faulted g) v w h k = absurd (let z : shown table variables (Printed t) ≡ shown table variables (Faulted g) = h in cc)
  following-shown later later' (Answered b) Moved v w h k = absurd (let z : shown table variables (Answered b) ≡ shown table variables Moved = h in cc)
  following-shown later later' (Answered b) (Printed u) v w h k = absurd (let z : shown table variables (Answered b) ≡ shown table variables (Printed u) = h in cc)
  following-shown later later' (Answered b) (Answered c) v w h k = ap₂ (λ (x : Shown) (xs : List Shown). x ∷ xs) h k
  following-shown later later' (Answered b) Failure v w h k = absurd (let z : shown table variables (Answered b) ≡ shown table variables Failure = h in cc)
  following-shown later later' (Answered b) (Faulted g) v w h k = absurd (let z : shown table variables (Answered b) ≡ shown table variables (Faulted g) = h in cc)
  following-shown later later' Failure Moved v w h k = absurd (let z : shown table variables Failure ≡ shown table variables Moved = h in cc)
  following-shown later later' Failure (Printed u) v w h k = absurd (let z : shown table variables Failure ≡ shown table variables (Printed u) = h in cc)
  following-shown later later' Failure (Answered c) v w h k = absurd (let z : shown table variables Failure ≡ shown table variables (Answered c) = h in cc)
  following-shown later later' Failure Failure v w h k = ap (λ (x : Shown). x ∷ []) h
  following-shown later later' Failure (Faulted g) v w h k = absurd (let z : shown table variables Failure ≡ shown table variables (Faulted g) = h in cc)
  following-shown later later' (Faulted d) Moved v w h k = absurd (let z : shown table variables (Faulted d) ≡ shown table variables Moved = h in cc)
  following-shown later later' (Faulted d) (Printed u) v w h k = absurd (let z : shown table variables (Faulted d) ≡ shown table variables (Printed u) = h in cc)
  following-shown later later' (Faulted d) (Answered c) v w h k = absurd (let z : shown table variables (Faulted d) ≡ shown table variables (Answered c) = h in cc)
  following-shown later later' (Faulted d) Failure v w h k = absurd (let z : shown table variables (Faulted d) ≡ shown table variables Failure = h in cc)
  following-shown later later' (Faulted d) (Faulted g) v w h k = ap (λ (x : Shown). x ∷ []) h

module _ (unify : Unification) (fair : IsFair unify) (program : Program) (variables : List QueryVar) where
  pub events-alike : (n : ℕ) (s t : State) → AlikeState s t → map (shown program.symbols variables) (events unify program n s) ≡ map (shown program.symbols variables) (events unify program n t)
  events-alike zero s t w = refl
  events-alike (suc n) s t w =
      let m = next-alike unify fair program s t w in
      following-shown program.symbols variables (events unify program n) (events unify program n) _ _ _ _ (alike-shown program.symbols variables _ _ m.0) (events-alike n _ _ m.1)
