-- Counting the alternatives that are kept.
use Rattle.std.proofs.Common.{◌≡◌, ℕ, zero, suc, ◌-◌, ◌≤◌, Bool, true, false, cond, not, ◌||◌, nat_lt, List, [], ◌∷◌, map, length, filter, drop, refl, sym, ap, ap₂, ◌∙◌, arith}
use Rattle.std.specs.List.{list_any}
use Rattle.std.proofs.lemmas.Bool.{ltb-true, ltb-false}
use Rattle.ref_terms.specs.search.BranchMove.{cut_to}
use Rattle.ref_terms.specs.search.Branch.{Goal, Branch}
use Rattle.ref_terms.specs.search.State.{Candidate, Alternative, later_clauses, other_side}
use Rattle.ref_terms.specs.search.Strip.{recounted, with_barriers, clashes_at, is_open, is_kept, kept_of, stripped, strip_all, BarriersFall}
use Rattle.ref_terms.specs.unification.Spine.{head_of}
use Rattle.ref_terms.specs.unification.Unification.{Unification}
use Rattle.ref_terms.specs.search.Program.{Program, constant_of}
use Rattle.ref_terms.specs.search.Next.{constant_modes}
use Rattle.ref_terms.proofs.search.ListVars.{map-after}
use Rattle.ref_terms.proofs.search.BarrierVars.{try-clash}

-- barriers counted by functions that agree up to the top
pub falls-map : (g h : ℕ → ℕ) (top : ℕ) (gs : List Goal) → BarriersFall top gs → ((n : ℕ) → n ≤ top → g n ≡ h n) → map (recounted g) gs ≡ map (recounted h) gs
falls-map g h top [] w e = refl
falls-map g h top (x ∷ gs) w e = ap₂ (λ (n : ℕ) (ys : List Goal). record x { barrier = n } ∷ ys) (e x.barrier w.0) (falls-map g h x.barrier gs w.1 (λ n low. e n (let top_low = w.0 in omega arith)))

-- a higher top
pub falls-higher : (top more : ℕ) (gs : List Goal) → top ≤ more → BarriersFall top gs → BarriersFall more gs
falls-higher top more [] low w = tt
falls-higher top more (x ∷ gs) low w = (let top_low = w.0 in omega arith, w.1)

-- cut below the newest alternative
pub cut-low : (n : ℕ) (x : Alternative) (xs : List Alternative) → n ≤ length xs → cut_to n (x ∷ xs) ≡ cut_to n xs
cut-low n x xs low = let e : suc (length xs) - n ≡ suc (length xs - n) = omega arith in ap (λ (k : ℕ). drop k (x ∷ xs)) e

-- cut above it
pub cut-high : (n : ℕ) (xs : List Alternative) → length xs ≤ n → cut_to n xs ≡ xs
cut-high n xs high = let e : length xs - n ≡ 0 = omega arith in ap (λ (k : ℕ). drop k xs) e

-- a number up to another one, or above it
pub up-to-or-above : {R : Type 0} (n top : ℕ) → (n ≤ top → R) → (suc top ≤ n → R) → R
up-to-or-above {R} n top f g = go (nat_lt top n) refl
  where
    go : (b : Bool) → nat_lt top n ≡ b → R
    go true e = g (ltb-true top n e)
    go false e = f (ltb-false top n e)

drop-none : {A : Type 0} (k : ℕ) → drop {A = A} k [] ≡ []
drop-none zero = refl
drop-none (suc k) = refl

-- two cuts, where the second is deeper
pub cut-cut : (n m : ℕ) (xs : List Alternative) → n ≤ m → cut_to n (cut_to m xs) ≡ cut_to n xs
cut-cut n m [] low = ap (cut_to n) (drop-none (0 - m))
cut-cut n m (x ∷ xs) low = up-to-or-above m (length xs)
    (λ below. ap (cut_to n) (cut-low m x xs below) ∙ cut-cut n m xs low ∙ sym (cut-low n x xs (omega arith)))
    (λ above. ap (cut_to n) (cut-high m (x ∷ xs) above))

-- what is kept of the older alternatives, and of one more
module _ (unify : Unification) (program : Program) where
  -- as many are kept as there are after stripping
  kept-length : (xs : List Alternative) → length (filter (is_kept unify program) xs) ≡ length (strip_all unify program xs)
  kept-length [] = refl
  kept-length (x ∷ xs) = go (is_kept unify program x) (kept-length xs)
    where
      go : (b : Bool) → length (filter (is_kept unify program) xs) ≡ length (strip_all unify program xs) → length (cond b (x ∷ filter (is_kept unify program) xs) (filter (is_kept unify program) xs)) ≡ length (cond b (stripped unify program xs x ∷ strip_all unify program xs) (strip_all unify program xs))
      go true e = ap suc e
      go false e = e

  pub kept-top : (n : ℕ) (xs : List Alternative) → length xs ≤ n → kept_of unify program xs n ≡ length (strip_all unify program xs)
  kept-top n xs high = ap (λ (ys : List Alternative). length (filter (is_kept unify program) ys)) (cut-high n xs high) ∙ kept-length xs

  pub kept-low : (n : ℕ) (x : Alternative) (xs : List Alternative) → n ≤ length xs → kept_of unify program (x ∷ xs) n ≡ kept_of unify program xs n
  kept-low n x xs low = ap (λ (ys : List Alternative). length (filter (is_kept unify program) ys)) (cut-low n x xs low)

  strip-grows : (x : Alternative) (xs : List Alternative) → length (strip_all unify program xs) ≤ length (strip_all unify program (x ∷ xs))
  strip-grows x xs = go (is_kept unify program x)
    where
      go : (b : Bool) → length (strip_all unify program xs) ≤ length (cond b (stripped unify program xs x ∷ strip_all unify program xs) (strip_all unify program xs))
      go true = omega arith
      go false = omega arith

  -- no more are kept than there are
  pub kept-bound : (n : ℕ) (xs : List Alternative) → kept_of unify program xs n ≤ length (strip_all unify program xs)
  kept-bound n [] = let e = kept-top n [] (omega arith) in omega arith
  kept-bound n (x ∷ xs) = up-to-or-above n (length xs)
      (λ low. let e = kept-low n x xs low in let k = kept-bound n xs in let g = strip-grows x xs in omega arith)
      (λ high. let e = kept-top n (x ∷ xs) high in omega arith)

  -- the alternatives that a cut leaves, stripped, are those that it leaves of the stripped ones
  pub strip-cut : (n : ℕ) (xs : List Alternative) → strip_all unify program (cut_to n xs) ≡ cut_to (kept_of unify program xs n) (strip_all unify program xs)
  strip-cut n [] = ap (strip_all unify program) (drop-none (0 - n)) ∙ sym (drop-none (0 - kept_of unify program [] n))
  strip-cut n (x ∷ xs) = up-to-or-above n (length xs)
      (λ low. ap (strip_all unify program) (cut-low n x xs low) ∙ strip-cut n xs ∙ one-more (is_kept unify program x) (kept_of unify program xs n) (kept-bound n xs) ∙ ap (λ (k : ℕ). cut_to k (strip_all unify program (x ∷ xs))) (sym (kept-low n x xs low)))
      (λ high. ap (strip_all unify program) (cut-high n (x ∷ xs) high) ∙ sym (cut-high (kept_of unify program (x ∷ xs) n) (strip_all unify program (x ∷ xs)) (let e = kept-top n (x ∷ xs) high in omega arith)))
    where
      one-more : (b : Bool) (k : ℕ) → k ≤ length (strip_all unify program xs) → cut_to k (strip_all unify program xs) ≡ cut_to k (cond b (stripped unify program xs x ∷ strip_all unify program xs) (strip_all unify program xs))
      one-more true k low = sym (cut-low k (stripped unify program xs x) (strip_all unify program xs) low)
      one-more false k low = refl

  -- a list of alternatives that are all kept
  AllKept : List Alternative → Type 0
  AllKept [] = Unit {0}
  AllKept (x ∷ xs) = (is_kept unify program x ≡ true) × AllKept xs

  -- whether a clause clashes doesn't depend on barriers
  pub open-counted : (f : ℕ → ℕ) (b : Branch) (c : Candidate) → is_open unify program (with_barriers f b) c ≡ is_open unify program b c
  open-counted f b c = at b.goals
    where
      at : (gs : List Goal) → not (clashes_at unify program (with_barriers f b) (map (recounted f) gs) c) ≡ not (clashes_at unify program b gs c)
      at [] = refl
      at (g ∷ gs) = ap not (try-clash unify (constant_modes program (constant_of (head_of g.term))) f b g gs (map (recounted f) gs) 0 0 c)

  filter-same : (f g : Candidate → Bool) → ((c : Candidate) → f c ≡ g c) → (cs : List Candidate) → filter f cs ≡ filter g cs
  filter-same f g e [] = refl
  filter-same f g e (c ∷ cs) = ap₂ (λ (b : Bool) (ds : List Candidate). cond b (c ∷ ds) ds) (e c) (filter-same f g e cs)

  any-same : (f g : Candidate → Bool) → ((c : Candidate) → f c ≡ g c) → (cs : List Candidate) → list_any f cs ≡ list_any g cs
  any-same f g e [] = refl
  any-same f g e (c ∷ cs) = ap₂ (λ (b d : Bool). b || d) (e c) (any-same f g e cs)

  any-filter : (f : Candidate → Bool) (cs : List Candidate) → list_any f (filter f cs) ≡ list_any f cs
  any-filter f [] = refl
  any-filter f (c ∷ cs) = go (f c) refl (any-filter f cs)
    where
      go : (b : Bool) → f c ≡ b → list_any f (filter f cs) ≡ list_any f cs → list_any f (cond b (c ∷ filter f cs) (filter f cs)) ≡ b || list_any f cs
      go true e k = ap (λ (d : Bool). d || list_any f (filter f cs)) e
      go false e k = k

  filter-twice : (f : Candidate → Bool) (cs : List Candidate) → filter f (filter f cs) ≡ filter f cs
  filter-twice f [] = refl
  filter-twice f (c ∷ cs) = go (f c) refl (filter-twice f cs)
    where
      go : (b : Bool) → f c ≡ b → filter f (filter f cs) ≡ filter f cs → filter f (cond b (c ∷ filter f cs) (filter f cs)) ≡ cond b (c ∷ filter f cs) (filter f cs)
      go true e k = ap₂ (λ (d : Bool) (ds : List Candidate). cond d (c ∷ ds) ds) e k
      go false e k = k

  -- the clauses that are left, in a branch with other barriers
  pub open-clauses : (f : ℕ → ℕ) (b : Branch) (cs : List Candidate) → filter (is_open unify program (with_barriers f b)) cs ≡ filter (is_open unify program b) cs
  open-clauses f b cs = filter-same (is_open unify program (with_barriers f b)) (is_open unify program b) (open-counted f b) cs

  -- an alternative with other barriers, and without clauses that clash, is kept where it was
  kept-counted : (f : ℕ → ℕ) (b : Branch) (cs : List Candidate) → is_kept unify program (later_clauses (with_barriers f b) cs) ≡ is_kept unify program (later_clauses b cs)
  kept-counted f b cs = any-same (is_open unify program (with_barriers f b)) (is_open unify program b) (open-counted f b) cs

  kept-stripped : (xs : List Alternative) (x : Alternative) → is_kept unify program (stripped unify program xs x) ≡ is_kept unify program x
  kept-stripped xs (other_side b) = refl
  kept-stripped xs (later_clauses b cs) = kept-counted (kept_of unify program xs) b (filter (is_open unify program b) cs) ∙ any-filter (is_open unify program b) cs

  strip-kept : (xs : List Alternative) → AllKept (strip_all unify program xs)
  unfolding AllKept
  strip-kept [] = tt
  strip-kept (x ∷ xs) = go (is_kept unify program x) refl (strip-kept xs)
    where
      go : (b : Bool) → is_kept unify program x ≡ b → AllKept (strip_all unify program xs) → AllKept (cond b (stripped unify program xs x ∷ strip_all unify program xs) (strip_all unify program xs))
      go true e k = (kept-stripped xs x ∙ e, k)
      go false e k = k

  kept-drop : (k : ℕ) (xs : List Alternative) → AllKept xs → length (filter (is_kept unify program) (drop k xs)) ≡ length xs - k
  unfolding AllKept
  kept-drop zero [] w = refl
  kept-drop (suc k) [] w = let e : 0 ≡ 0 - suc k = omega arith in e
  kept-drop zero (x ∷ xs) w = ap (λ (b : Bool). length (cond b (x ∷ filter (is_kept unify program) xs) (filter (is_kept unify program) xs))) w.0 ∙ ap suc (kept-drop zero xs w.1) ∙ (let e : suc (length xs - 0) ≡ suc (length xs) - 0 = omega arith in e)
  kept-drop (suc k) (x ∷ xs) w = kept-drop k xs w.1 ∙ (let e : length xs - k ≡ suc (length xs) - suc k = omega arith in e)

  -- of stripped alternatives all are kept
  pub kept-all : (m : ℕ) (xs : List Alternative) → m ≤ length (strip_all unify program xs) → kept_of unify program (strip_all unify program xs) m ≡ m
  kept-all m xs low = kept-drop (length (strip_all unify program xs) - m) (strip_all unify program xs) (strip-kept xs) ∙ (let e : length (strip_all unify program xs) - (length (strip_all unify program xs) - m) ≡ m = omega arith in e)

  -- so counting them once more changes nothing
  pub kept-twice : (n : ℕ) (xs : List Alternative) → kept_of unify program (strip_all unify program xs) (kept_of unify program xs n) ≡ kept_of unify program xs n
  kept-twice n xs = kept-all (kept_of unify program xs n) xs (kept-bound n xs)

  pub barriers-twice : (xs : List Alternative) (b : Branch) → with_barriers (kept_of unify program (strip_all unify program xs)) (with_barriers (kept_of unify program xs) b) ≡ with_barriers (kept_of unify program xs) b
  barriers-twice xs b = λ i. record b { goals = map-after (recounted (kept_of unify program (strip_all unify program xs))) (recounted (kept_of unify program xs)) (recounted (kept_of unify program xs)) (λ g. λ j. record g { barrier = kept-twice g.barrier xs j }) b.goals i }

  -- stripping an alternative once more
  pub stripped-side : (xs : List Alternative) (b : Branch) → stripped unify program (strip_all unify program xs) (other_side (with_barriers (kept_of unify program xs) b)) ≡ other_side (with_barriers (kept_of unify program xs) b)
  stripped-side xs b = ap other_side (barriers-twice xs b)

  pub strip-twice : (xs : List Alternative) → strip_all unify program (strip_all unify program xs) ≡ strip_all unify program xs
  strip-twice [] = refl
  strip-twice (x ∷ xs) = go (is_kept unify program x) refl (strip-twice xs)
    where
      again : (y : Alternative) → stripped unify program (strip_all unify program xs) (stripped unify program xs y) ≡ stripped unify program xs y
      again (other_side b) = stripped-side xs b
      again (later_clauses b cs) = ap₂ later_clauses (barriers-twice xs b) (open-clauses (kept_of unify program xs) b (filter (is_open unify program b) cs) ∙ filter-twice (is_open unify program b) cs)

      go : (b : Bool) → is_kept unify program x ≡ b → strip_all unify program (strip_all unify program xs) ≡ strip_all unify program xs
          → strip_all unify program (cond b (stripped unify program xs x ∷ strip_all unify program xs) (strip_all unify program xs)) ≡ cond b (stripped unify program xs x ∷ strip_all unify program xs) (strip_all unify program xs)
      go true e k =
          ap (λ (d : Bool). cond d (stripped unify program (strip_all unify program xs) (stripped unify program xs x) ∷ strip_all unify program (strip_all unify program xs)) (strip_all unify program (strip_all unify program xs))) (kept-stripped xs x ∙ e)
          ∙ ap₂ (λ (y : Alternative) (ys : List Alternative). y ∷ ys) (again x) k
      go false e k = k

  -- one more alternative of clauses, those that clash left out or not
  pub strip-later : (xs : List Alternative) (b : Branch) (cs ds : List Candidate) → list_any (is_open unify program b) ds ≡ list_any (is_open unify program b) cs → filter (is_open unify program b) ds ≡ filter (is_open unify program b) cs
      → strip_all unify program (later_clauses (with_barriers (kept_of unify program xs) b) ds ∷ strip_all unify program xs) ≡ strip_all unify program (later_clauses b cs ∷ xs)
  strip-later xs b cs ds any same =
      let f = kept_of unify program xs in
      ap₂ (λ (k : Bool) (y : Alternative). cond k (y ∷ strip_all unify program (strip_all unify program xs)) (strip_all unify program (strip_all unify program xs)))
      (kept-counted f b ds ∙ any) (ap₂ later_clauses (barriers-twice xs b) (open-clauses f b ds ∙ same))
      ∙ ap (λ (ys : List Alternative). cond (is_kept unify program (later_clauses b cs)) (stripped unify program xs (later_clauses b cs) ∷ ys) ys) (strip-twice xs)

  -- without those that clash
  pub strip-later-open : (xs : List Alternative) (b : Branch) (cs : List Candidate) → strip_all unify program (later_clauses (with_barriers (kept_of unify program xs) b) (filter (is_open unify program b) cs) ∷ strip_all unify program xs) ≡ strip_all unify program (later_clauses b cs ∷ xs)
  strip-later-open xs b cs = strip-later xs b cs (filter (is_open unify program b) cs) (any-filter (is_open unify program b) cs) (filter-twice (is_open unify program b) cs)

  -- one more right side
  pub strip-side : (xs : List Alternative) (b : Branch) → strip_all unify program (other_side (with_barriers (kept_of unify program xs) b) ∷ strip_all unify program xs) ≡ strip_all unify program (other_side b ∷ xs)
  strip-side xs b = ap₂ (λ (y : Alternative) (ys : List Alternative). y ∷ ys) (stripped-side xs b) (strip-twice xs)
