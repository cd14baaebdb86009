-- One more event of a ledger, and one less.
use Rattle.std.proofs.Common.{◌≡◌, ◌≢◌, ℕ, zero, suc, ◌-◌, ◌<◌, ◌≤◌, Bool, true, false, cond, ◌||◌, ◌&&◌, not, nat_eq, List, [], ◌∷◌, ◌++◌, map, reverse, length, slice_get, set, refl, sym, ap, ◌∙◌, subst, Some, None, arith, ne_eqb, length-append}
use Rattle.std.specs.List.{list_any, AllPairs}
use Rattle.std.specs.Prelude.{slice_index_or}
use Rattle.std.proofs.lemmas.Bool.{eqb-true, eqb-false}
use Rattle.std.proofs.lemmas.Bool.Decides.{nat_tests}
use Rattle.std.proofs.lemmas.List.{reverse-reverse, length-reverse, get_or-set_same, get_or-set_other, length-set}
use Rattle.std.proofs.lemmas.List.Folds.{list_any-append}
use Rattle.dance_list.specs.Dance.{Unlinked, undone, left_by}
use Rattle.dance_list.specs.declared.cells.Node.{Node}
use Rattle.ref_terms.specs.search.Used.{Every}
use Rattle.watch_lists.specs.declared.Change.{Change}
use Rattle.suspend.specs.declared.constraint.Constraint.{Constraint}
use Rattle.suspend.specs.declared.constraint.Fired.{Fired}
use Rattle.suspend.specs.declared.note.Note.{Note}
use Rattle.suspend.specs.declared.note.Note.TheVariants.{Joins, Leaves, Fires, Heads, Becomes, Waits, Sleeps, Doubts, Rests}
use Rattle.suspend.specs.Store.{Event, added, stored, without, is_stored, waiting}
use Rattle.suspend.specs.inside.Kept.{numbered, told, IsKept, Alike, watched, stands_in, IsStanding, is_rests, is_doubts, newest_of, settled, doubted, HasRoom, IsLedger}
use Rattle.suspend.proofs.EventLemmas.{nat-eq-itself, or-later}
use Rattle.suspend.proofs.LogLemmas.{numbers-below}
use Rattle.suspend.proofs.KeptLemmas.{kept-alike, kept-nodes, kept-added, numbered-at, numbered-first, numbered-newest}
use Rattle.suspend.proofs.StoreLemmas.{pushed, joined-kept, left-kept, fired-kept, kept-along, unjoined, unfired, unleft, nodes-cut, some-first}

-- marks of numbers
eq-suc : (a b : ℕ) → nat_eq a b ≡ nat_eq (suc a) (suc b)
eq-suc a b = grind (arith, nat_tests)

zero-apart : (n : ℕ) → nat_eq 0 (suc n) ≡ false
zero-apart n = ne_eqb 0 (suc n) (omega arith)

index-last : (bs : List Bool) (b : Bool) (i : ℕ) → slice_index_or (bs ++ b ∷ []) i false ≡ cond (nat_eq i (length bs)) b (slice_index_or bs i false)
index-last [] b zero = refl
index-last [] b (suc i) = sym (ap (λ (x : Bool). cond x b false) (ne_eqb (suc i) 0 (omega arith)))
index-last (x ∷ bs) b zero = sym (ap (λ (y : Bool). cond y b x) (zero-apart (length bs)))
index-last (x ∷ bs) b (suc i) = index-last bs b i ∙ ap (λ (y : Bool). cond y b (slice_index_or bs i false)) (eq-suc i (length bs))

stands-last : (bs : List Bool) (b : Bool) (m : ℕ) → stands_in (bs ++ b ∷ []) m ≡ cond (nat_eq m (suc (length bs))) b (stands_in bs m)
stands-last bs b zero = sym (ap (λ (y : Bool). cond y b false) (zero-apart (length bs)))
stands-last bs b (suc i) = index-last bs b i ∙ ap (λ (y : Bool). cond y b (slice_index_or bs i false)) (eq-suc i (length bs))

index-beyond : (bs : List Bool) (i : ℕ) → length bs ≤ i → slice_index_or bs i false ≡ false
index-beyond [] i h = refl
index-beyond (b ∷ bs) zero h = absurd (let z : suc (length bs) ≤ 0 = h in omega (arith, z))
index-beyond (b ∷ bs) (suc i) h = index-beyond bs i (let z : suc (length bs) ≤ suc i = h in omega (arith, z))

stands-beyond : (bs : List Bool) (m : ℕ) → length bs < m → stands_in bs m ≡ false
stands-beyond bs zero h = refl
stands-beyond bs (suc i) h = index-beyond bs i (omega (arith, h))

stands-set : (bs : List Bool) (k : ℕ) (b : Bool) (m : ℕ) → 1 ≤ k → k - 1 < length bs → stands_in (set bs (k - 1) b) m ≡ cond (nat_eq m k) b (stands_in bs m)
stands-set bs k b zero low within = sym (ap (λ (y : Bool). cond y b false) (ne_eqb 0 k (omega (arith, low))))
stands-set bs k b (suc i) low within = go (nat_eq (suc i) k) refl
  where
    go : (y : Bool) → nat_eq (suc i) k ≡ y → slice_index_or (set bs (k - 1) b) i false ≡ cond y b (slice_index_or bs i false)
    go true e =
        let same = eqb-true (suc i) k e in
        let at : i ≡ k - 1 = omega (arith, same) in
        ap (λ (j : ℕ). slice_index_or (set bs (k - 1) b) j false) at ∙ get_or-set_same bs (k - 1) b false within
    go false e =
        let other = eqb-false (suc i) k e in
        get_or-set_other bs (k - 1) i b false (λ z. other (omega (arith, z, low)))

-- stored numbers
module _ {X : Type 0} where
  joined-stored : (log : List (Event X)) (c : Constraint X) (m : ℕ) → list_any (λ e. nat_eq m e.0) (stored log ++ (suc (added log), c) ∷ []) ≡ (is_stored log m || (nat_eq m (suc (added log)) || false))
  joined-stored log c m = list_any-append (λ e. nat_eq m e.0) (stored log) ((suc (added log), c) ∷ [])

  pub any-without : (es : List (ℕ × Constraint X)) (k m : ℕ) → list_any (λ e. nat_eq m e.0) (without k es) ≡ (not (nat_eq m k) && list_any (λ e. nat_eq m e.0) es)
  any-without [] k m = go (nat_eq m k)
    where
      go : (a : Bool) → false ≡ (not a && false)
      go true = refl
      go false = refl
  any-without (e ∷ es) k m = go (nat_eq e.0 k) refl (nat_eq m e.0) refl (any-without es k m)
    where
      step : (c d : Bool) → c ≡ false → (not c && d) ≡ (not c && (false || d))
      step c d z = refl

      go : (a : Bool) → nat_eq e.0 k ≡ a → (b : Bool) → nat_eq m e.0 ≡ b → list_any (λ z. nat_eq m z.0) (without k es) ≡ (not (nat_eq m k) && list_any (λ z. nat_eq m z.0) es)
          → list_any (λ z. nat_eq m z.0) (cond (not a) (e ∷ without k es) (without k es)) ≡ (not (nat_eq m k) && (b || list_any (λ z. nat_eq m z.0) es))
      go true p true q rest =
          let here : nat_eq m k ≡ true = ap (λ (x : ℕ). nat_eq m x) (sym (eqb-true e.0 k p)) ∙ q in
          rest ∙ ap (λ (x : Bool). not x && list_any (λ z. nat_eq m z.0) es) here ∙ sym (ap (λ (x : Bool). not x && (true || list_any (λ z. nat_eq m z.0) es)) here)
      go true p false q rest = rest
      go false p true q rest =
          let apart : nat_eq m k ≡ false = ap (λ (x : ℕ). nat_eq x k) (eqb-true m e.0 q) ∙ p in
          ap (λ (x : Bool). x || list_any (λ z. nat_eq m z.0) (without k es)) q ∙ sym (ap (λ (x : Bool). not x && (true || list_any (λ z. nat_eq m z.0) es)) apart)
      go false p false q rest = ap (λ (x : Bool). x || list_any (λ z. nat_eq m z.0) (without k es)) q ∙ rest

  any-low : (es : List (ℕ × Constraint X)) (m n : ℕ) → Every (λ e. e.0 ≤ n) es → list_any (λ e. nat_eq m e.0) es ≡ true → m ≤ n
  any-low [] m n w h = absurd (let z : false ≡ true = h in cc)
  any-low (e ∷ es) m n w h = go (nat_eq m e.0) refl (any-low es m n w.1)
    where
      go : (b : Bool) → nat_eq m e.0 ≡ b → (list_any (λ z. nat_eq m z.0) es ≡ true → m ≤ n) → m ≤ n
      go true p f = let same = eqb-true m e.0 p in let low = w.0 in omega (arith, same, low)
      go false p f = f (sym (ap (λ (b : Bool). b || list_any (λ z. nat_eq m z.0) es) p) ∙ h)

  not-stored : (log : List (Event X)) (m : ℕ) → added log < m → is_stored log m ≡ false
  not-stored log m past = go (is_stored log m) refl
    where
      go : (b : Bool) → is_stored log m ≡ b → is_stored log m ≡ false
      go true e = absurd (let low = any-low (stored log) m (added log) (numbers-below log) e in omega (arith, low, past))
      go false e = e

  -- marks through the events
  standing-joined : (log : List (Event X)) (c : Constraint X) (bs : List Bool) → IsStanding bs log → (length (bs ++ true ∷ []) ≡ suc (added log)) × ((m : ℕ) → stands_in (bs ++ true ∷ []) m ≡ list_any (λ e. nat_eq m e.0) (stored log ++ (suc (added log), c) ∷ []))
  standing-joined log c bs w = (
    (let size = length-append bs (true ∷ []) in let many = w.0 in omega (arith, size, many)),
    λ m. stands-last bs true m ∙ ap (λ (n : ℕ). cond (nat_eq m (suc n)) true (stands_in bs m)) w.0 ∙ ap (cond (nat_eq m (suc (added log))) true) (w.1 m) ∙ turned (nat_eq m (suc (added log))) (is_stored log m) ∙ sym (joined-stored log c m),
  )
    where
      turned : (a b : Bool) → cond a true b ≡ (b || (a || false))
      turned true true = refl
      turned true false = refl
      turned false true = refl
      turned false false = refl

  standing-unjoined : (log : List (Event X)) (c : Constraint X) (bs : List Bool) (b : Bool) → (length (bs ++ b ∷ []) ≡ suc (added log)) → ((m : ℕ) → stands_in (bs ++ b ∷ []) m ≡ list_any (λ e. nat_eq m e.0) (stored log ++ (suc (added log), c) ∷ [])) → IsStanding bs log
  standing-unjoined log c bs b size w = (many, λ m. go m (nat_eq m (suc (length bs))) refl)
    where
      many : length bs ≡ added log
      many = let z = length-append bs (b ∷ []) in omega (arith, z, size)

      or-none : (a : Bool) → (a || (false || false)) ≡ a
      or-none true = refl
      or-none false = refl

      go : (m : ℕ) (y : Bool) → nat_eq m (suc (length bs)) ≡ y → stands_in bs m ≡ is_stored log m
      go m true e =
          let at = eqb-true m (suc (length bs)) e in
          stands-beyond bs m (omega (arith, at)) ∙ sym (not-stored log m (omega (arith, at, many)))
      go m false e =
          let apart : nat_eq m (suc (added log)) ≡ false = ap (λ (n : ℕ). nat_eq m (suc n)) (sym many) ∙ e in
          sym (stands-last bs b m ∙ ap (λ (y : Bool). cond y b (stands_in bs m)) e)
          ∙ w m ∙ joined-stored log c m ∙ ap (λ (y : Bool). is_stored log m || (y || false)) apart ∙ or-none (is_stored log m)

  standing-left : (log : List (Event X)) (k : ℕ) (bs : List Bool) → 1 ≤ k → k - 1 < length bs → IsStanding bs log → (length (set bs (k - 1) false) ≡ added log) × ((m : ℕ) → stands_in (set bs (k - 1) false) m ≡ list_any (λ e. nat_eq m e.0) (without k (stored log)))
  standing-left log k bs low within w = (
    length-set bs (k - 1) false ∙ w.0,
    λ m. stands-set bs k false m low within ∙ ap (cond (nat_eq m k) false) (w.1 m) ∙ turned (nat_eq m k) (is_stored log m) ∙ sym (any-without (stored log) k m),
  )
    where
      turned : (a b : Bool) → cond a false b ≡ (not a && b)
      turned true b = refl
      turned false b = refl

  standing-unleft : (log : List (Event X)) (k : ℕ) (bs : List Bool) → 1 ≤ k → k - 1 < length bs → is_stored log k ≡ true → (length bs ≡ added log) → ((m : ℕ) → stands_in bs m ≡ list_any (λ e. nat_eq m e.0) (without k (stored log))) → IsStanding (set bs (k - 1) true) log
  standing-unleft log k bs low within there size w = (length-set bs (k - 1) true ∙ size, λ m. stands-set bs k true m low within ∙ go m (nat_eq m k) refl)
    where
      go : (m : ℕ) (y : Bool) → nat_eq m k ≡ y → cond y true (stands_in bs m) ≡ is_stored log m
      go m true e = sym (ap (is_stored log) (eqb-true m k e) ∙ there)
      go m false e = w m ∙ any-without (stored log) k m ∙ ap (λ (y : Bool). not y && is_stored log m) e

  alike-has : (cs : List (Constraint X)) (ns : List Node) (xs ys : List (Node × ℕ)) (n : Node) (k : ℕ) (es : List (ℕ × Constraint X)) → Alike cs ns (xs ++ (n, k) ∷ ys) es → list_any (λ e. nat_eq k e.0) es ≡ true
  alike-has cs ns [] ys n k [] w = elim w [ ]
  alike-has cs ns [] ys n k (e ∷ es) w = ap (λ (b : Bool). b || list_any (λ z. nat_eq k z.0) es) (ap (λ (m : ℕ). nat_eq k m) (sym w.0) ∙ nat-eq-itself k)
  alike-has cs ns (x ∷ xs) ys n k [] w = elim w [ ]
  alike-has cs ns (x ∷ xs) ys n k (e ∷ es) w = or-later (nat_eq k e.0) (list_any (λ z. nat_eq k z.0) es) (alike-has cs ns xs ys n k es w.3)

-- room for one more note
pub room-of : (xs : List Note) (spare : ℕ) → 1 ≤ spare → HasRoom xs spare
room-of [] spare h = tt
room-of (x ∷ xs) spare h = λ e. h

pub room-more : (xs : List Note) (a b : ℕ) → a ≤ b → HasRoom xs a → HasRoom xs b
room-more [] a b h w = tt
room-more (x ∷ xs) a b h w = λ e. let z = w e in omega (arith, h, z)

-- the newest note
pub newest-is : (xs : List Note) → slice_get xs (length xs - 1) ≡ newest_of (reverse xs)
newest-is xs = go (reverse xs) refl
  where
    go : (ys : List Note) → reverse xs ≡ ys → slice_get xs (length xs - 1) ≡ newest_of ys
    go [] e = ap (λ zs. slice_get zs (length zs - 1)) (sym (reverse-reverse xs) ∙ ap reverse e)
    go (y ∷ ys) e =
        let size : length xs ≡ suc (length ys) = sym (length-reverse xs) ∙ ap length e in
        let at : length xs - 1 ≡ length ys = omega (arith, size) in
        ap (slice_get xs) at ∙ ap (λ zs. slice_get zs (length ys)) (sym (reverse-reverse xs) ∙ ap reverse e) ∙ sym (numbered-newest (y ∷ ys) (length ys)) ∙ numbered-first y ys

pub settled-none : (xs : List Note) → None ≡ newest_of xs → settled xs ≡ true
settled-none [] e = refl
settled-none (x ∷ xs) e = absurd (let z : None ≡ Some x = e in cc)

pub settled-some : (xs : List Note) (x : Note) → Some x ≡ newest_of xs → settled xs ≡ is_rests x
settled-some [] x e = absurd (let z : Some x ≡ None = e in cc)
settled-some (y ∷ xs) x e = ap is_rests (sym (some-first x y e))

pub doubted-none : (xs : List Note) → None ≡ newest_of xs → doubted xs ≡ false
doubted-none [] e = refl
doubted-none (x ∷ xs) e = absurd (let z : None ≡ Some x = e in cc)

pub doubted-some : (xs : List Note) (x : Note) → Some x ≡ newest_of xs → doubted xs ≡ is_doubts x
doubted-some [] x e = absurd (let z : Some x ≡ None = e in cc)
doubted-some (y ∷ xs) x e = ap is_doubts (sym (some-first x y e))

-- notes that change no list
abbrev pub IsPlain : Note → Type 0
IsPlain Joins = ⊥
IsPlain (Leaves n) = ⊥
IsPlain Fires = ⊥
IsPlain _ = Unit {0}

module _ {X : Type 0} where
  plain-kept : (x : Note) → IsPlain x → (older : List Note) (cs : List (Constraint X)) (fs : List Fired) (ns : List Node) (ls : List (Node × ℕ)) (us : List (Unlinked ℕ)) → IsKept older cs fs ns ls us → IsKept (x ∷ older) cs fs ns ls us
  plain-kept Joins p older cs fs ns ls us w = elim p [ ]
  plain-kept (Leaves n) p older cs fs ns ls us w = elim p [ ]
  plain-kept Fires p older cs fs ns ls us w = elim p [ ]
  plain-kept (Heads v n) p older cs fs ns ls us w = w
  plain-kept (Becomes v n) p older cs fs ns ls us w = w
  plain-kept (Waits n) p older cs fs ns ls us w = w
  plain-kept (Sleeps n) p older cs fs ns ls us w = w
  plain-kept Doubts p older cs fs ns ls us w = w
  plain-kept Rests p older cs fs ns ls us w = w

  plain-unkept : (x : Note) → IsPlain x → (older : List Note) (cs : List (Constraint X)) (fs : List Fired) (ns : List Node) (ls : List (Node × ℕ)) (us : List (Unlinked ℕ)) → IsKept (x ∷ older) cs fs ns ls us → IsKept older cs fs ns ls us
  plain-unkept Joins p older cs fs ns ls us w = elim p [ ]
  plain-unkept (Leaves n) p older cs fs ns ls us w = elim p [ ]
  plain-unkept Fires p older cs fs ns ls us w = elim p [ ]
  plain-unkept (Heads v n) p older cs fs ns ls us w = w
  plain-unkept (Becomes v n) p older cs fs ns ls us w = w
  plain-unkept (Waits n) p older cs fs ns ls us w = w
  plain-unkept (Sleeps n) p older cs fs ns ls us w = w
  plain-unkept Doubts p older cs fs ns ls us w = w
  plain-unkept Rests p older cs fs ns ls us w = w

  plain-standing : (x : Note) → IsPlain x → (older : List Note) (cs : List (Constraint X)) (fs : List Fired) (bs : List Bool) → IsStanding bs (told older cs fs) → IsStanding bs (told (x ∷ older) cs fs)
  plain-standing Joins p older cs fs bs w = elim p [ ]
  plain-standing (Leaves n) p older cs fs bs w = elim p [ ]
  plain-standing Fires p older cs fs bs w = elim p [ ]
  plain-standing (Heads v n) p older cs fs bs w = w
  plain-standing (Becomes v n) p older cs fs bs w = w
  plain-standing (Waits n) p older cs fs bs w = w
  plain-standing (Sleeps n) p older cs fs bs w = w
  plain-standing Doubts p older cs fs bs w = w
  plain-standing Rests p older cs fs bs w = w

  plain-unstanding : (x : Note) → IsPlain x → (older : List Note) (cs : List (Constraint X)) (fs : List Fired) (bs : List Bool) → IsStanding bs (told (x ∷ older) cs fs) → IsStanding bs (told older cs fs)
  plain-unstanding Joins p older cs fs bs w = elim p [ ]
  plain-unstanding (Leaves n) p older cs fs bs w = elim p [ ]
  plain-unstanding Fires p older cs fs bs w = elim p [ ]
  plain-unstanding (Heads v n) p older cs fs bs w = w
  plain-unstanding (Becomes v n) p older cs fs bs w = w
  plain-unstanding (Waits n) p older cs fs bs w = w
  plain-unstanding (Sleeps n) p older cs fs bs w = w
  plain-unstanding Doubts p older cs fs bs w = w
  plain-unstanding Rests p older cs fs bs w = w

  -- such a note comes, and goes
  pub noted : (x : Note) → IsPlain x → (notes notes' : List Note) (spare spare' : ℕ) (cs : List (Constraint X)) (fs : List Fired) (places all : List Node) (ls : List (Node × ℕ)) (us : List (Unlinked ℕ)) (ws ws' : List Change) (bs : List Bool)
      → notes' ≡ notes ++ x ∷ [] → ws' ≡ watched (x ∷ reverse notes) → (is_doubts x ≡ false → 1 ≤ spare') → IsLedger notes spare cs fs places all ls us ws bs → IsLedger notes' spare' cs fs places all ls us ws' bs
  noted x p notes notes' spare spare' cs fs places all ls us ws ws' bs e u r w =
      let order : reverse notes' ≡ x ∷ reverse notes = ap reverse e ∙ pushed notes x in
      record {
        kept = subst (λ z. IsKept z (reverse cs) (reverse fs) (reverse places) ls us) (sym order) (plain-kept x p (reverse notes) (reverse cs) (reverse fs) (reverse places) ls us w.kept);
        nodes = w.nodes;
        watches = u ∙ ap watched (sym order);
        standing = subst (λ z. IsStanding bs (told z (reverse cs) (reverse fs))) (sym order) (plain-standing x p (reverse notes) (reverse cs) (reverse fs) bs w.standing);
        room = subst (λ z. HasRoom z spare') (sym order) r;
      }

  pub unnoted : (x : Note) → IsPlain x → (notes notes' : List Note) (spare spare' : ℕ) (cs : List (Constraint X)) (fs : List Fired) (places all : List Node) (ls : List (Node × ℕ)) (us : List (Unlinked ℕ)) (ws ws' : List Change) (bs : List Bool)
      → notes ≡ notes' ++ x ∷ [] → (ws ≡ watched (x ∷ reverse notes') → ws' ≡ watched (reverse notes')) → 1 ≤ spare' → IsLedger notes spare cs fs places all ls us ws bs → IsLedger notes' spare' cs fs places all ls us ws' bs
  unnoted x p notes notes' spare spare' cs fs places all ls us ws ws' bs e u r w =
      let order : reverse notes ≡ x ∷ reverse notes' = ap reverse e ∙ pushed notes' x in
      record {
        kept = plain-unkept x p (reverse notes') (reverse cs) (reverse fs) (reverse places) ls us (subst (λ z. IsKept z (reverse cs) (reverse fs) (reverse places) ls us) order w.kept);
        nodes = w.nodes;
        watches = u (w.watches ∙ ap watched order);
        standing = plain-unstanding x p (reverse notes') (reverse cs) (reverse fs) bs (subst (λ z. IsStanding bs (told z (reverse cs) (reverse fs))) order w.standing);
        room = room-of (reverse notes') spare' r;
      }

  pub told-noted : (x : Note) (notes notes' : List Note) (cs : List (Constraint X)) (fs : List Fired) → notes' ≡ notes ++ x ∷ [] → told (reverse notes') cs fs ≡ told (x ∷ reverse notes) cs fs
  told-noted x notes notes' cs fs e = ap (λ z. told z cs fs) (ap reverse e ∙ pushed notes x)

  -- a constraint joins
  pub joined : (notes notes' : List Note) (spare spare' : ℕ) (cs cs' : List (Constraint X)) (fs : List Fired) (places places' all all' : List Node) (ls ls' : List (Node × ℕ)) (us us' : List (Unlinked ℕ)) (ws : List Change) (bs bs' : List Bool) (c : Constraint X) (n : Node) (k : ℕ)
      → notes' ≡ notes ++ Joins ∷ [] → cs' ≡ cs ++ c ∷ [] → places' ≡ places ++ n ∷ [] → bs' ≡ bs ++ true ∷ [] → all' ≡ all ++ n ∷ [] → ls' ≡ ls ++ (n, k) ∷ [] → us' ≡ us → k ≡ suc (length cs) → 1 ≤ spare'
      → IsLedger notes spare cs fs places all ls us ws bs → IsLedger notes' spare' cs' fs places' all' ls' us' ws bs'
  joined notes notes' spare spare' cs cs' fs places places' all all' ls ls' us us' ws bs bs' c n k a b p m d l u e r w =
      let order : reverse notes' ≡ Joins ∷ reverse notes = ap reverse a ∙ pushed notes Joins in
      let cons : reverse cs' ≡ c ∷ reverse cs = ap reverse b ∙ pushed cs c in
      record {
        kept = kept-along (reverse (notes ++ Joins ∷ [])) (reverse notes') (reverse (cs ++ c ∷ [])) (reverse cs') (reverse fs) (reverse fs) (reverse (places ++ n ∷ [])) (reverse places') (ls ++ (n, k) ∷ []) ls' us us'
            (ap reverse (sym a)) (ap reverse (sym b)) refl (ap reverse (sym p)) (sym l) (sym u) (joined-kept notes cs (reverse fs) places ls us c n k w.kept e);
        nodes = d ∙ ap (λ zs. zs ++ n ∷ []) w.nodes ∙ sym p;
        watches = w.watches ∙ ap watched (sym order);
        standing = subst (λ z. IsStanding bs' (told z (reverse cs') (reverse fs))) (sym order)
            (subst (λ z. IsStanding bs' (told (Joins ∷ reverse notes) z (reverse fs))) (sym cons)
            (subst (λ z. IsStanding z (told (Joins ∷ reverse notes) (c ∷ reverse cs) (reverse fs))) (sym m)
            (standing-joined (told (reverse notes) (reverse cs) (reverse fs)) c bs w.standing)));
        room = room-of (reverse notes') spare' r;
      }

  -- one leaves
  pub left : (notes notes' : List Note) (spare spare' : ℕ) (cs : List (Constraint X)) (fs : List Fired) (places all all' : List Node) (ls ls' : List (Node × ℕ)) (us us' : List (Unlinked ℕ)) (ws : List Change) (bs bs' : List Bool) (k : ℕ) (u : Unlinked ℕ) (n : Node)
      → AllPairs (λ a b. a ≢ b) places → numbered (reverse places) k ≡ Some n → u.0 ≡ n → ls ≡ undone u → ls' ≡ left_by u → us' ≡ u ∷ us → notes' ≡ notes ++ Leaves k ∷ [] → all' ≡ all → bs' ≡ set bs (k - 1) false → 1 ≤ spare'
      → IsLedger notes spare cs fs places all ls us ws bs → IsLedger notes' spare' cs fs places all' ls' us' ws bs'
  left notes notes' spare spare' cs fs places all all' ls ls' us us' ws bs bs' k u n once at here split gone stack a d m r w =
      let order : reverse notes' ≡ Leaves k ∷ reverse notes = ap reverse a ∙ pushed notes (Leaves k) in
      let low = numbered-at places k n n at in
      let size : length bs ≡ length places = w.standing.0 ∙ kept-added (reverse notes) (reverse cs) (reverse fs) (reverse places) ls us w.kept ∙ sym (kept-nodes (reverse notes) (reverse cs) (reverse fs) (reverse places) ls us w.kept) ∙ length-reverse places in
      let within : k - 1 < length bs = (let z = low.1 in omega (arith, z, size)) in
      record {
        kept = kept-along (reverse (notes ++ Leaves k ∷ [])) (reverse notes') (reverse cs) (reverse cs) (reverse fs) (reverse fs) (reverse places) (reverse places) ls' ls' us' us' (ap reverse (sym a)) refl refl refl refl refl
            (left-kept notes (reverse cs) (reverse fs) places ls us k u ls' us' n once w.kept at here split gone stack);
        nodes = d ∙ w.nodes;
        watches = w.watches ∙ ap watched (sym order);
        standing = subst (λ z. IsStanding bs' (told z (reverse cs) (reverse fs))) (sym order)
            (subst (λ z. IsStanding z (told (Leaves k ∷ reverse notes) (reverse cs) (reverse fs))) (sym m)
            (standing-left (told (reverse notes) (reverse cs) (reverse fs)) k bs low.0 within w.standing));
        room = room-of (reverse notes') spare' r;
      }

  -- a rule fires
  pub fired : (notes notes' : List Note) (spare spare' : ℕ) (cs : List (Constraint X)) (fs fs' : List Fired) (places all : List Node) (ls : List (Node × ℕ)) (us : List (Unlinked ℕ)) (ws : List Change) (bs : List Bool) (f : Fired)
      → notes' ≡ notes ++ Fires ∷ [] → fs' ≡ fs ++ f ∷ [] → 1 ≤ spare' → IsLedger notes spare cs fs places all ls us ws bs → IsLedger notes' spare' cs fs' places all ls us ws bs
  fired notes notes' spare spare' cs fs fs' places all ls us ws bs f a b r w =
      let order : reverse notes' ≡ Fires ∷ reverse notes = ap reverse a ∙ pushed notes Fires in
      let pairs : reverse fs' ≡ f ∷ reverse fs = ap reverse b ∙ pushed fs f in
      record {
        kept = kept-along (reverse (notes ++ Fires ∷ [])) (reverse notes') (reverse cs) (reverse cs) (reverse (fs ++ f ∷ [])) (reverse fs') (reverse places) (reverse places) ls ls us us (ap reverse (sym a)) refl (ap reverse (sym b)) refl refl refl
            (fired-kept notes (reverse cs) fs (reverse places) ls us f w.kept);
        nodes = w.nodes;
        watches = w.watches ∙ ap watched (sym order);
        standing = subst (λ z. IsStanding bs (told z (reverse cs) (reverse fs'))) (sym order) (subst (λ z. IsStanding bs (told (Fires ∷ reverse notes) (reverse cs) z)) (sym pairs) w.standing);
        room = room-of (reverse notes') spare' r;
      }

  -- as many marks as nodes
  pub marks-many : (notes : List Note) (spare : ℕ) (cs : List (Constraint X)) (fs : List Fired) (places all : List Node) (ls : List (Node × ℕ)) (us : List (Unlinked ℕ)) (ws : List Change) (bs : List Bool)
      → IsLedger notes spare cs fs places all ls us ws bs → length bs ≡ length places
  marks-many notes spare cs fs places all ls us ws bs w =
      w.standing.0 ∙ kept-added (reverse notes) (reverse cs) (reverse fs) (reverse places) ls us w.kept ∙ sym (kept-nodes (reverse notes) (reverse cs) (reverse fs) (reverse places) ls us w.kept) ∙ length-reverse places

  -- the newest note is that one leaves
  pub newest-left : (notes notes' : List Note) (spare : ℕ) (cs : List (Constraint X)) (fs : List Fired) (places all : List Node) (ls : List (Node × ℕ)) (us : List (Unlinked ℕ)) (ws : List Change) (bs : List Bool) (k : ℕ)
      → notes ≡ notes' ++ Leaves k ∷ [] → IsLedger notes spare cs fs places all ls us ws bs → IsKept (Leaves k ∷ reverse notes') (reverse cs) (reverse fs) (reverse places) ls us
  newest-left notes notes' spare cs fs places all ls us ws bs k a w = subst (λ z. IsKept z (reverse cs) (reverse fs) (reverse places) ls us) (ap reverse a ∙ pushed notes' (Leaves k)) w.kept

  -- they go back
  pub joining_undone : (notes notes' : List Note) (spare spare' : ℕ) (cs cs' : List (Constraint X)) (fs : List Fired) (places places' all all' : List Node) (ls ls' ms : List (Node × ℕ)) (us us' : List (Unlinked ℕ)) (ws : List Change) (bs bs' : List Bool) (c : Constraint X) (n : Node) (b : Bool)
      → notes ≡ notes' ++ Joins ∷ [] → cs ≡ cs' ++ c ∷ [] → places ≡ places' ++ n ∷ [] → bs ≡ bs' ++ b ∷ [] → length ms ≡ 1 → ls ≡ ls' ++ ms → all ≡ all' ++ map (λ l. l.0) ms → us' ≡ us → 1 ≤ spare'
      → IsLedger notes spare cs fs places all ls us ws bs → IsLedger notes' spare' cs' fs places' all' ls' us' ws bs'
  joining_undone notes notes' spare spare' cs cs' fs places places' all all' ls ls' ms us us' ws bs bs' c n b a x p m one l d u r w =
      let order : reverse notes ≡ Joins ∷ reverse notes' = ap reverse a ∙ pushed notes' Joins in
      let cons : reverse cs ≡ c ∷ reverse cs' = ap reverse x ∙ pushed cs' c in
      let stands : IsStanding (bs' ++ b ∷ []) (told (Joins ∷ reverse notes') (c ∷ reverse cs') (reverse fs)) =
      subst (λ z. IsStanding z (told (Joins ∷ reverse notes') (c ∷ reverse cs') (reverse fs))) m (subst (λ z. IsStanding bs (told (Joins ∷ reverse notes') z (reverse fs))) cons (subst (λ z. IsStanding bs (told z (reverse cs) (reverse fs))) order w.standing)) in
      record {
        kept = subst (λ z. IsKept (reverse notes') (reverse cs') (reverse fs) (reverse places') ls' z) (sym u)
            (unjoined (reverse notes') cs cs' (reverse fs) places places' ls ls' ms us c n (subst (λ z. IsKept z (reverse cs) (reverse fs) (reverse places) ls us) order w.kept) x p one l);
        nodes = nodes-cut all all' places places' ms n w.nodes p one d;
        watches = w.watches ∙ ap watched order;
        standing = standing-unjoined (told (reverse notes') (reverse cs') (reverse fs)) c bs' b stands.0 stands.1;
        room = room-of (reverse notes') spare' r;
      }

  pub leaving_undone : (notes notes' : List Note) (spare spare' : ℕ) (cs : List (Constraint X)) (fs : List Fired) (places all all' : List Node) (ls ls' : List (Node × ℕ)) (us us' : List (Unlinked ℕ)) (ws : List Change) (bs bs' : List Bool) (k : ℕ) (u : Unlinked ℕ)
      → notes ≡ notes' ++ Leaves k ∷ [] → us ≡ u ∷ us' → ls' ≡ undone u → all' ≡ all → bs' ≡ set bs (k - 1) true → 1 ≤ spare'
      → IsLedger notes spare cs fs places all ls us ws bs → IsLedger notes' spare' cs fs places all' ls' us' ws bs'
  leaving_undone notes notes' spare spare' cs fs places all all' ls ls' us us' ws bs bs' k u a stack back d m r w =
      let order : reverse notes ≡ Leaves k ∷ reverse notes' = ap reverse a ∙ pushed notes' (Leaves k) in
      let log = told (reverse notes') (reverse cs) (reverse fs) in
      let kept : IsKept (Leaves k ∷ reverse notes') (reverse cs) (reverse fs) (reverse places) ls us = subst (λ z. IsKept z (reverse cs) (reverse fs) (reverse places) ls us) order w.kept in
      let stands : IsStanding bs (told (Leaves k ∷ reverse notes') (reverse cs) (reverse fs)) = subst (λ z. IsStanding bs (told z (reverse cs) (reverse fs))) order w.standing in
      let low = numbered-at places k kept.0.0 kept.0.0 kept.4 in
      let size : length bs ≡ length places = w.standing.0 ∙ kept-added (reverse notes) (reverse cs) (reverse fs) (reverse places) ls us w.kept ∙ sym (kept-nodes (reverse notes) (reverse cs) (reverse fs) (reverse places) ls us w.kept) ∙ length-reverse places in
      let within : k - 1 < length bs = (let z = low.1 in omega (arith, z, size)) in
      let alike = kept-alike (reverse notes') (reverse cs) (reverse fs) (reverse places) (undone kept.0) kept.1 kept.6 in
      let there : is_stored (told (reverse notes') (reverse cs) (reverse fs)) k ≡ true = ap (is_stored (told (reverse notes') (reverse cs) (reverse fs))) (sym kept.3) ∙ alike-has (reverse cs) (reverse places) kept.0.2 kept.0.3 kept.0.0 kept.0.1 (stored (told (reverse notes') (reverse cs) (reverse fs))) alike in
      record {
        kept = unleft (reverse notes') (reverse cs) (reverse fs) (reverse places) k ls ls' us us' u kept stack back;
        nodes = d ∙ w.nodes;
        watches = w.watches ∙ ap watched order;
        standing = subst (λ z. IsStanding z (told (reverse notes') (reverse cs) (reverse fs))) (sym m) (standing-unleft (told (reverse notes') (reverse cs) (reverse fs)) k bs low.0 within there stands.0 stands.1);
        room = room-of (reverse notes') spare' r;
      }

  pub firing_undone : (notes notes' : List Note) (spare spare' : ℕ) (cs : List (Constraint X)) (fs fs' : List Fired) (places all : List Node) (ls : List (Node × ℕ)) (us : List (Unlinked ℕ)) (ws : List Change) (bs : List Bool) (f : Fired)
      → notes ≡ notes' ++ Fires ∷ [] → fs ≡ fs' ++ f ∷ [] → 1 ≤ spare' → IsLedger notes spare cs fs places all ls us ws bs → IsLedger notes' spare' cs fs' places all ls us ws bs
  firing_undone notes notes' spare spare' cs fs fs' places all ls us ws bs f a b r w =
      let order : reverse notes ≡ Fires ∷ reverse notes' = ap reverse a ∙ pushed notes' Fires in
      let pairs : reverse fs ≡ f ∷ reverse fs' = ap reverse b ∙ pushed fs' f in
      record {
        kept = unfired (reverse notes') (reverse cs) fs fs' (reverse places) ls us f (subst (λ z. IsKept z (reverse cs) (reverse fs) (reverse places) ls us) order w.kept) b;
        nodes = w.nodes;
        watches = w.watches ∙ ap watched order;
        standing = subst (λ z. IsStanding bs (told (Fires ∷ reverse notes') (reverse cs) z)) pairs (subst (λ z. IsStanding bs (told z (reverse cs) (reverse fs))) order w.standing);
        room = room-of (reverse notes') spare' r;
      }

  -- where nothing is to be looked at
  pub settled-rests : (notes : List Note) (cs : List (Constraint X)) (fs : List Fired) → settled notes ≡ true → waiting (told notes cs fs) ≡ []
  settled-rests [] cs fs e = refl
  settled-rests (Joins ∷ older) cs fs e = absurd (let z : false ≡ true = e in cc)
  settled-rests (Leaves n ∷ older) cs fs e = absurd (let z : false ≡ true = e in cc)
  settled-rests (Fires ∷ older) cs fs e = absurd (let z : false ≡ true = e in cc)
  settled-rests (Heads v n ∷ older) cs fs e = absurd (let z : false ≡ true = e in cc)
  settled-rests (Becomes v n ∷ older) cs fs e = absurd (let z : false ≡ true = e in cc)
  settled-rests (Waits n ∷ older) cs fs e = absurd (let z : false ≡ true = e in cc)
  settled-rests (Sleeps n ∷ older) cs fs e = absurd (let z : false ≡ true = e in cc)
  settled-rests (Doubts ∷ older) cs fs e = absurd (let z : false ≡ true = e in cc)
  settled-rests (Rests ∷ older) cs fs e = refl
