-- What the parts of a move do to worlds and alternatives.
use Rattle.std.proofs.Common.{◌≡◌, ℕ, zero, suc, ◌≤◌, ◌-◌, List, [], ◌∷◌, ◌++◌, length, reverse, map, Some, None, slice_get, refl, sym, ap, ◌∙◌, arith, take, drop, subst, cond, eq-eqb}
use Rattle.std.proofs.lemmas.List.{reverse-append, reverse-reverse, length-reverse, length-map}
use Rattle.level_terms.specs.Undo as heap
use Rattle.level_terms.specs.Valid.{IsValid}
use Rattle.ref_terms.specs.declared.path.Choice.{Choice}
use Rattle.ref_terms.specs.search.Program.{Program}
use Rattle.ref_terms.specs.search.Branch.{with_goals}
use Rattle.ref_terms.specs.search.BranchMove.{cut_to}
use Rattle.ref_terms.specs.search.State.{Alternative}
use Rattle.search_moves.specs.declared.frame.Frame.{Frame}
use Rattle.search_moves.specs.declared.frame.Saved.{Saved}
use Rattle.search_moves.specs.World.{World, undone, mark_of, oldest, chain, IsWithin, IsContextAt, IsFine}
use Rattle.search_moves.specs.Reading.{goal_in, branch_in, left_at, saved_in, alternatives_in}
use Rattle.search_moves.specs.Saved.{HasLeft, AllSaved, Keeps, KeepsNewest, newest_frames}
use Rattle.search_moves.proofs.ListLemmas.{oldest-length, oldest-oldest, oldest-cons, chain-oldest, chain-newest}
use Rattle.search_moves.proofs.WorldLemmas.{undone-now, within-now}
use Rattle.search_moves.proofs.FrameLemmas.{frames-oldest}
use Rattle.search_moves.proofs.SavedLemmas.{popped-reads, all-cut}
use Rattle.search_moves.proofs.StageLemmas.{slice_get-snoc, reverse-oldest}

-- frames are cut

pub cut-keeps : (w w' : World) (n : ℕ) (saved : List Saved) → w' ≡ record w { frames = oldest n w.frames } → newest_frames saved ≤ n → n ≤ length w.frames → AllSaved w saved → KeepsNewest saved w w'
cut-keeps w w' n [] e low high h = tt
cut-keeps w w' n (a ∷ older) e low high h =
    let cut = oldest-oldest a.mark.frames n w.frames low high in
    subst (λ z. Keeps a.mark w z) (sym e) (record {
      within = record { heap = h.0.within.heap; frames = omega (arith, low, oldest-length n w.frames high); path = h.0.within.path; log = h.0.within.log };
      same = λ i. record { heap = heap.undone a.mark.heap w.heap; frames = cut i; path = oldest a.mark.path w.path; log = oldest a.mark.store.events w.log; query = w.query; base = w.base };
    })

pub cut-fine : (w w' : World) (n first next : ℕ) → w' ≡ record w { frames = oldest n w.frames } → next ≤ n → n ≤ length w.frames → IsFine w first → IsFine w' next
cut-fine w w' n first next e low high fine = subst (λ z. IsFine z next) (sym e) (record {
  frames = frames-oldest w.heap n w.frames fine.frames;
  there = omega (arith, low, oldest-length n w.frames high);
  query = fine.query;
  code = fine.code;
  constraints = fine.constraints;
  keyed = fine.keyed;
})

pub cut-reads : (w w' : World) (n first next : ℕ) → w' ≡ record w { frames = oldest n w.frames } → next ≤ n → n ≤ length w.frames → branch_in w' next ≡ with_goals (map (goal_in w.heap) (chain w.frames next)) (branch_in w first)
cut-reads w w' n first next e low high =
    ap (λ z. branch_in z next) e ∙ ap (λ fs. with_goals (map (goal_in w.heap) fs) (branch_in w first)) (chain-oldest n w.frames next low high)

-- a frame is added

pub push-keeps : (w w' : World) (f : Frame) (saved : List Saved) → w' ≡ record w { frames = f ∷ w.frames } → AllSaved w saved → KeepsNewest saved w w'
push-keeps w w' f [] e h = tt
push-keeps w w' f (a ∷ older) e h =
    let cut = oldest-cons f w.frames a.mark.frames h.0.within.frames in
    subst (λ z. Keeps a.mark w z) (sym e) (record {
      within = record { heap = h.0.within.heap; frames = omega (arith, h.0.within.frames); path = h.0.within.path; log = h.0.within.log };
      same = λ i. record { heap = heap.undone a.mark.heap w.heap; frames = cut i; path = oldest a.mark.path w.path; log = oldest a.mark.store.events w.log; query = w.query; base = w.base };
    })

pub push-fine : (w w' : World) (f : Frame) (n : ℕ) → w' ≡ record w { frames = f ∷ w.frames } → n ≡ suc (length w.frames) → IsFine w f.next → IsValid w.heap f.term.index f.depth → IsContextAt w.heap f.depth f.context → IsFine w' n
push-fine w w' f n e k fine v x = subst (λ z. IsFine z n) (sym e) (record {
  frames = (v, fine.there, fine.frames, x);
  there = omega (arith, k);
  query = fine.query;
  code = fine.code;
  constraints = fine.constraints;
  keyed = fine.keyed;
})

-- the old goals are there still
pub push-old : (w w' : World) (f : Frame) (first : ℕ) → w' ≡ record w { frames = f ∷ w.frames } → IsFine w first → IsValid w.heap f.term.index f.depth → IsContextAt w.heap f.depth f.context → f.next ≤ length w.frames → IsFine w' first
push-old w w' f first e fine v x h = subst (λ z. IsFine z first) (sym e) (record {
  frames = (v, h, fine.frames, x);
  there = omega (arith, fine.there);
  query = fine.query;
  code = fine.code;
  constraints = fine.constraints;
  keyed = fine.keyed;
})

pub push-reads : (w w' : World) (f : Frame) (n : ℕ) → w' ≡ record w { frames = f ∷ w.frames } → n ≡ suc (length w.frames) → branch_in w' n ≡ with_goals (goal_in w.heap f ∷ map (goal_in w.heap) (chain w.frames f.next)) (branch_in w f.next)
push-reads w w' f n e k =
    ap (λ z. branch_in z n) e ∙ ap (λ m. branch_in (record w { frames = f ∷ w.frames }) m) k
    ∙ ap (λ fs. with_goals (map (goal_in w.heap) fs) (branch_in w f.next)) (chain-newest f w.frames)

-- a choice is added

pub path-keeps : (w w' : World) (k : Choice) (saved : List Saved) → w' ≡ record w { path = k ∷ w.path } → AllSaved w saved → KeepsNewest saved w w'
path-keeps w w' k [] e h = tt
path-keeps w w' k (a ∷ older) e h =
    let cut = oldest-cons k w.path a.mark.path h.0.within.path in
    subst (λ z. Keeps a.mark w z) (sym e) (record {
      within = record { heap = h.0.within.heap; frames = h.0.within.frames; path = omega (arith, h.0.within.path); log = h.0.within.log };
      same = λ i. record { heap = heap.undone a.mark.heap w.heap; frames = oldest a.mark.frames w.frames; path = cut i; log = oldest a.mark.store.events w.log; query = w.query; base = w.base };
    })

pub path-fine : (w w' : World) (k : Choice) (first : ℕ) → w' ≡ record w { path = k ∷ w.path } → IsFine w first → IsFine w' first
path-fine w w' k first e fine = subst (λ z. IsFine z first) (sym e) (record { frames = fine.frames; there = fine.there; query = fine.query; code = fine.code; constraints = fine.constraints; keyed = fine.keyed })

-- an alternative is made

pub saved-now : (w : World) (a : Saved) (saved : List Saved) → a.mark ≡ mark_of w → heap.IsClosed a.mark.heap w.heap → IsFine w a.first → HasLeft w a.first a.left → AllSaved w saved → AllSaved w (a ∷ saved)
saved-now w a saved e closed fine left h =
    let now : undone a.mark w ≡ w = ap (λ m. undone m w) e ∙ undone-now w in (
      record { within = subst (λ m. IsWithin m w) (sym e) (within-now w); closed = closed; fine = subst (λ z. IsFine z a.first) (sym now) fine; left = subst (λ z. HasLeft z a.first a.left) (sym now) left },
      subst (λ z. AllSaved z saved) (sym now) h,
    )

pub saved-now_reads : (p : Program) (w : World) (a : Saved) → a.mark ≡ mark_of w → saved_in p w a ≡ left_at p (branch_in w a.first) a.left
saved-now_reads p w a e = ap (λ z. left_at p (branch_in z a.first) a.left) (ap (λ m. undone m w) e ∙ undone-now w)

-- the newest one

pub newest-last : {A : Type 0} (xs : List A) (x : A) → reverse (xs ++ x ∷ []) ≡ x ∷ reverse xs
newest-last xs x = reverse-append xs (x ∷ [])

pub newest-is : (xs : List Saved) (a : Saved) → Some a ≡ slice_get xs (length xs - 1) → a.mark.frames ≡ newest_frames (reverse xs)
newest-is xs a e = go (reverse xs) (sym (reverse-reverse xs)) e
  where
    go : (ys : List Saved) → xs ≡ reverse ys → Some a ≡ slice_get xs (length xs - 1) → a.mark.frames ≡ newest_frames ys
    go [] q p = absurd (let z : Some a ≡ None = p ∙ ap (λ zs. slice_get zs (length zs - 1)) q in cc)
    go (y ∷ older) q p =
        let k : length (reverse (y ∷ older)) - 1 ≡ length (reverse older) = omega (arith, length-reverse (y ∷ older), length-reverse older) in
        let there : slice_get xs (length xs - 1) ≡ Some y =
        ap (λ zs. slice_get zs (length zs - 1)) q
        ∙ ap (slice_get (reverse (y ∷ older))) k
        ∙ ap (λ zs. slice_get zs (length (reverse older))) (reverse-append (y ∷ []) older)
        ∙ slice_get-snoc (reverse older) y (length (reverse older))
        ∙ ap (λ b. cond b (Some y) (slice_get (reverse older) (length (reverse older)))) (eq-eqb (length (reverse older)) (length (reverse older)) refl) in
        let same : Some a ≡ Some y = p ∙ there in
        let one : a ≡ y = cc in
        ap (λ z. z.mark.frames) one

pub back-reads : (p : Program) (w w' : World) (choices front : List Saved) (a : Saved) → choices ≡ front ++ a ∷ [] → AllSaved w (reverse choices) → w' ≡ undone a.mark w
    → alternatives_in p w (reverse choices) ≡ left_at p (branch_in w' a.first) a.left ∷ alternatives_in p w' (reverse front)
back-reads p w w' choices front a e h u =
    let order : reverse choices ≡ a ∷ reverse front = ap reverse e ∙ newest-last front a in
    let known = subst (AllSaved w) order h in
    ap (alternatives_in p w) order
    ∙ ap (λ (xs : List Alternative). saved_in p w a ∷ xs) (sym (popped-reads p w a (reverse front) known))
    ∙ ap (λ z. left_at p (branch_in z a.first) a.left ∷ alternatives_in p z (reverse front)) (sym u)

-- alternatives are cut

pub drop-map : {A B : Type 0} (f : A → B) (k : ℕ) (xs : List A) → map f (drop k xs) ≡ drop k (map f xs)
drop-map f zero xs = refl
drop-map f (suc k) [] = refl
drop-map f (suc k) (x ∷ xs) = drop-map f k xs

pub cut-saved : (w : World) (n : ℕ) (choices cut : List Saved) → cut ≡ take n choices → n ≤ length choices → AllSaved w (reverse choices) → AllSaved w (reverse cut)
cut-saved w n choices cut e h all = subst (AllSaved w) (sym (ap reverse e ∙ reverse-oldest n choices h)) (all-cut w _ (reverse choices) all)

pub cut-saved_reads : (p : Program) (w : World) (n : ℕ) (choices cut : List Saved) → cut ≡ take n choices → n ≤ length choices → alternatives_in p w (reverse cut) ≡ cut_to n (alternatives_in p w (reverse choices))
cut-saved_reads p w n choices cut e h =
    ap (alternatives_in p w) (ap reverse e ∙ reverse-oldest n choices h)
    ∙ drop-map (saved_in p w) (length (reverse choices) - n) (reverse choices)
    ∙ ap (λ k. drop (k - n) (alternatives_in p w (reverse choices))) (sym (length-map (reverse choices) (saved_in p w)))

pub newest-within : (w : World) (saved : List Saved) → AllSaved w saved → newest_frames saved ≤ length w.frames
newest-within w [] h = omega arith
newest-within w (a ∷ older) h = h.0.within.frames
