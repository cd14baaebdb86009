-- Alternatives stay as they are.
use Rattle.std.proofs.Common.{◌≡◌, ℕ, suc, zero, List, [], ◌∷◌, refl, sym, ap, ◌∙◌, subst, drop}
use Rattle.ref_terms.specs.search.Program.{Program}
use Rattle.ref_terms.specs.search.State.{Alternative}
use Rattle.search_moves.specs.declared.frame.Mark.{Mark}
use Rattle.search_moves.specs.declared.frame.Saved.{Saved}
use Rattle.search_moves.specs.World.{World, undone, IsWithin, IsFine}
use Rattle.search_moves.specs.Reading.{branch_in, left_at, saved_in, alternatives_in}
use Rattle.search_moves.specs.Saved.{HasLeft, IsSaved, AllSaved, Keeps, KeepsNewest}
use Rattle.search_moves.proofs.WorldLemmas.{undone-twice, within-twice, closed-same}

-- each mark isn't past what there is
abbrev AllWithin : World → List Saved → Type 0
AllWithin w [] = Unit {0}
AllWithin w (a ∷ older) = IsWithin a.mark w × AllWithin w older

within-later : (m : Mark) (w : World) → IsWithin m w → (saved : List Saved) → AllWithin (undone m w) saved → AllWithin w saved
within-later m w v [] h = tt
within-later m w v (a ∷ older) h = (within-twice a.mark m w v h.0, within-later m w v older h.1)

all-within : (w : World) (saved : List Saved) → AllSaved w saved → AllWithin w saved
all-within w [] h = tt
all-within w (a ∷ older) h = (h.0.within, within-later a.mark w h.0.within older (all-within (undone a.mark w) older h.1))

-- alternatives whose marks are there after going back to a mark read there as they did before
reads-back : (p : Program) (m : Mark) (w : World) → IsWithin m w → (saved : List Saved) → AllWithin (undone m w) saved → alternatives_in p (undone m w) saved ≡ alternatives_in p w saved
reads-back p m w v [] h = refl
reads-back p m w v (a ∷ older) h =
    let one : saved_in p (undone m w) a ≡ saved_in p w a = ap (λ z. left_at p (branch_in z a.first) a.left) (undone-twice a.mark m w v h.0) in
    ap (λ (x : Alternative). x ∷ alternatives_in p (undone m w) older) one ∙ ap (λ (xs : List Alternative). saved_in p w a ∷ xs) (reads-back p m w v older h.1)

-- the older alternatives read after going back to the newest as they did before
pub popped-reads : (p : Program) (w : World) (a : Saved) (older : List Saved) → AllSaved w (a ∷ older) → alternatives_in p (undone a.mark w) older ≡ alternatives_in p w older
popped-reads p w a older h = reads-back p a.mark w h.0.within older (all-within (undone a.mark w) older h.1)

saved-kept : (w w' : World) (a : Saved) → Keeps a.mark w w' → IsSaved w a → IsSaved w' a
saved-kept w w' a k s = record {
  within = k.within;
  closed = closed-same a.mark.heap w.heap w'.heap (ap (λ z. z.heap) k.same) s.closed;
  fine = subst (λ z. IsFine z a.first) (sym k.same) s.fine;
  left = subst (λ z. HasLeft z a.first a.left) (sym k.same) s.left;
}

-- what keeps the newest mark leaves what holds of all alternatives
pub all-kept : (w w' : World) (saved : List Saved) → AllSaved w saved → KeepsNewest saved w w' → AllSaved w' saved
all-kept w w' [] h k = tt
all-kept w w' (a ∷ older) h k = (saved-kept w w' a k h.0, subst (λ z. AllSaved z older) (sym k.same) h.1)

-- and all their readings
pub all-read-kept : (p : Program) (w w' : World) (saved : List Saved) → AllSaved w saved → KeepsNewest saved w w' → alternatives_in p w' saved ≡ alternatives_in p w saved
all-read-kept p w w' [] h k = refl
all-read-kept p w w' (a ∷ older) h k =
    let after = all-kept w w' (a ∷ older) h k in
    let one : saved_in p w' a ≡ saved_in p w a = ap (λ z. left_at p (branch_in z a.first) a.left) k.same in
    let more : alternatives_in p w' older ≡ alternatives_in p w older =
    sym (popped-reads p w' a older after) ∙ ap (λ z. alternatives_in p z older) k.same ∙ popped-reads p w a older h in
    ap (λ (x : Alternative). x ∷ alternatives_in p w' older) one ∙ ap (λ (xs : List Alternative). saved_in p w a ∷ xs) more

-- going on from the world that the newest mark leaves keeps the older marks
pub later-keeps : (w : World) (a : Saved) (older : List Saved) → AllSaved w (a ∷ older) → KeepsNewest older (undone a.mark w) w
later-keeps w a [] h = tt
later-keeps w a (o ∷ older) h = record {
  within = within-twice o.mark a.mark w h.0.within h.1.0.within;
  same = sym (undone-twice o.mark a.mark w h.0.within h.1.0.within);
}

-- without the newest alternative
pub all-dropped : (w : World) (a : Saved) (older : List Saved) → AllSaved w (a ∷ older) → AllSaved w older
all-dropped w a older h = all-kept (undone a.mark w) w older h.1 (later-keeps w a older h)

-- without so many of the newest
pub all-cut : (w : World) (k : ℕ) (saved : List Saved) → AllSaved w saved → AllSaved w (drop k saved)
all-cut w zero saved h = h
all-cut w (suc k) [] h = tt
all-cut w (suc k) (a ∷ older) h = all-cut w k older (all-dropped w a older h)
