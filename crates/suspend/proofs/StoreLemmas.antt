-- One more event of a store as it is kept, and one less.
use Rattle.std.proofs.Common.{◌≡◌, ◌≢◌, ℕ, suc, ◌-◌, ◌<◌, ◌≤◌, true, List, [], ◌∷◌, ◌++◌, map, reverse, length, drop, sym, ap, ap₂, ◌∙◌, subst, Option, Some, None, arith}
use Rattle.std.specs.List.{AllPairs}
use Rattle.std.proofs.lemmas.List.{reverse-reverse, reverse-append, length-reverse}
use Rattle.dance_list.specs.Dance.{Unlinked, undone, left_by}
use Rattle.dance_list.specs.declared.cells.Node.{Node}
use Rattle.suspend.specs.declared.constraint.Constraint.{Constraint}
use Rattle.suspend.specs.declared.constraint.Fired.{Fired}
use Rattle.suspend.specs.declared.note.Note.{Note}
use Rattle.suspend.specs.declared.note.Note.TheVariants.{Joins, Leaves, Fires, Heads, Becomes, Waits, Sleeps, Doubts, Rests}
use Rattle.suspend.specs.Store.{Event, joins, leaves, fires, firings, added, stored, stored_at, is_stored, oldest, IsLater}
use Rattle.suspend.specs.inside.Kept.{numbered, told, IsKept}
use Rattle.suspend.proofs.KeptLemmas.{kept-alike, kept-added, kept-length, alike-stands, alike-found, alike-at, numbered-once, Stands}
use Rattle.suspend.proofs.LogLemmas.{oldest-earlier}

pub pushed : {A : Type 0} (xs : List A) (x : A) → reverse (xs ++ x ∷ []) ≡ x ∷ reverse xs
pushed xs x = reverse-append xs (x ∷ [])

abbrev rest_of : {A : Type 0} → List A → List A
rest_of [] = []
rest_of (x ∷ xs) = xs

abbrev first_or : {A : Type 0} → A → List A → A
first_or d [] = d
first_or d (x ∷ xs) = x

pub same-rest : {A : Type 0} (x y : A) (xs ys : List A) → x ∷ xs ≡ y ∷ ys → xs ≡ ys
same-rest x y xs ys e = ap rest_of e

pub same-first : {A : Type 0} (x y : A) (xs ys : List A) → x ∷ xs ≡ y ∷ ys → x ≡ y
same-first x y xs ys e = ap (first_or x) e

-- what stands before the last one
pub before-last : {A : Type 0} (xs ys : List A) (x y : A) → xs ++ x ∷ [] ≡ ys ++ y ∷ [] → xs ≡ ys
before-last xs ys x y e = sym (reverse-reverse xs) ∙ ap reverse (same-rest x y (reverse xs) (reverse ys) (sym (pushed xs x) ∙ ap reverse e ∙ pushed ys y)) ∙ reverse-reverse ys

-- newest first: what is left without the newest
pub popped-rest : {A : Type 0} (xs ys : List A) (x y : A) (zs : List A) → xs ≡ ys ++ x ∷ [] → reverse xs ≡ y ∷ zs → reverse ys ≡ zs
popped-rest xs ys x y zs e f = same-rest x y (reverse ys) zs (sym (pushed ys x) ∙ sym (ap reverse e) ∙ f)

pub popped-first : {A : Type 0} (xs ys : List A) (x y : A) (zs : List A) → xs ≡ ys ++ x ∷ [] → reverse xs ≡ y ∷ zs → x ≡ y
popped-first xs ys x y zs e f = same-first x y (reverse ys) zs (sym (pushed ys x) ∙ sym (ap reverse e) ∙ f)

pub some-left : {A : Type 0} (xs : List A) (y : A) (zs : List A) → reverse xs ≡ y ∷ zs → 0 < length xs
some-left xs y zs e = let size = ap length e in omega (arith, size, length-reverse xs)

-- a list that ends in one alone
pub ends-in-one : {A : Type 0} (xs ms ys : List A) (y : A) → length ms ≡ 1 → xs ++ ms ≡ ys ++ y ∷ [] → (xs ≡ ys) × (ms ≡ y ∷ [])
ends-in-one xs [] ys y n e = absurd (let z : 0 ≡ 1 = n in omega (arith, z))
ends-in-one xs (m ∷ []) ys y n e =
    let first : m ≡ y = same-first m y (reverse xs) (reverse ys) (sym (pushed xs m) ∙ ap reverse e ∙ pushed ys y) in
    (before-last xs ys m y e, ap (λ z. z ∷ []) first)
ends-in-one xs (m ∷ k ∷ ms) ys y n e = absurd (let z : suc (suc (length ms)) ≡ 1 = n in omega (arith, z))

module _ {X : Type 0} where
  -- one that joins
  pub joined-kept : (notes : List Note) (cs : List (Constraint X)) (fs : List Fired) (ns : List Node) (ls : List (Node × ℕ)) (us : List (Unlinked ℕ)) (c : Constraint X) (n : Node) (k : ℕ)
      → IsKept (reverse notes) (reverse cs) fs (reverse ns) ls us → k ≡ suc (length cs) → IsKept (reverse (notes ++ Joins ∷ [])) (reverse (cs ++ c ∷ [])) fs (reverse (ns ++ n ∷ [])) (ls ++ (n, k) ∷ []) us
  joined-kept notes cs fs ns ls us c n k w e =
      subst (λ zs. IsKept zs (reverse (cs ++ c ∷ [])) fs (reverse (ns ++ n ∷ [])) (ls ++ (n, k) ∷ []) us) (sym (pushed notes Joins))
      (c, reverse cs, n, reverse ns, ls, pushed cs c, pushed ns n, ap (λ (m : ℕ). ls ++ (n, m) ∷ []) (e ∙ ap suc (sym (length-reverse cs))), w)

  pub joined-told : (notes : List Note) (cs : List (Constraint X)) (fs : List Fired) (c : Constraint X) → told (reverse (notes ++ Joins ∷ [])) (reverse (cs ++ c ∷ [])) fs ≡ joins c ∷ told (reverse notes) (reverse cs) fs
  joined-told notes cs fs c = ap₂ (λ (a : List Note) (b : List (Constraint X)). told a b fs) (pushed notes Joins) (pushed cs c)

  pub joined-number : (notes : List Note) (cs : List (Constraint X)) (fs : List Fired) (ns : List Node) (ls : List (Node × ℕ)) (us : List (Unlinked ℕ)) (c : Constraint X)
      → IsKept (reverse notes) (reverse cs) fs (reverse ns) ls us → added (joins c ∷ told (reverse notes) (reverse cs) fs) ≡ suc (length cs)
  joined-number notes cs fs ns ls us c w = ap suc (kept-added (reverse notes) (reverse cs) fs (reverse ns) ls us w ∙ length-reverse cs)

  -- one that leaves: where it stands
  pub leaving-stands : (notes : List Note) (cs : List (Constraint X)) (fs : List Fired) (ns : List Node) (ls : List (Node × ℕ)) (us : List (Unlinked ℕ)) (k : ℕ)
      → IsKept notes cs fs ns ls us → is_stored (told notes cs fs) k ≡ true → Stands ns ls k
  leaving-stands notes cs fs ns ls us k w h = alike-stands cs ns ls (stored (told notes cs fs)) k (kept-alike notes cs fs ns ls us w) h

  pub stored-found : (notes : List Note) (cs : List (Constraint X)) (fs : List Fired) (ns : List Node) (ls : List (Node × ℕ)) (us : List (Unlinked ℕ)) (k : ℕ)
      → IsKept notes cs fs ns ls us → is_stored (told notes cs fs) k ≡ true → (c : Constraint X) × (numbered cs k ≡ Some c) × (stored_at (stored (told notes cs fs)) k ≡ Some c)
  stored-found notes cs fs ns ls us k w h = alike-found cs ns ls (stored (told notes cs fs)) k (kept-alike notes cs fs ns ls us w) h

  pub left-kept : (notes : List Note) (cs : List (Constraint X)) (fs : List Fired) (ns : List Node) (ls : List (Node × ℕ)) (us : List (Unlinked ℕ)) (k : ℕ) (u : Unlinked ℕ) (ls' : List (Node × ℕ)) (us' : List (Unlinked ℕ)) (n : Node)
      → AllPairs (λ a b. a ≢ b) ns → IsKept (reverse notes) cs fs (reverse ns) ls us → numbered (reverse ns) k ≡ Some n → u.0 ≡ n → ls ≡ undone u → ls' ≡ left_by u → us' ≡ u ∷ us
      → IsKept (reverse (notes ++ Leaves k ∷ [])) cs fs (reverse ns) ls' us'
  left-kept notes cs fs ns ls us k u ls' us' n once w at here split left stack =
      let before = subst (λ zs. IsKept (reverse notes) cs fs (reverse ns) zs us) split w in
      let found : numbered (reverse ns) u.1 ≡ Some u.0 = alike-at cs (reverse ns) u.2 u.3 u.0 u.1 (stored (told (reverse notes) cs fs)) (kept-alike (reverse notes) cs fs (reverse ns) (undone u) us before) in
      let number : u.1 ≡ k = numbered-once ns u.1 k n once (found ∙ ap (λ z. Some z) here) at in
      subst (λ zs. IsKept zs cs fs (reverse ns) ls' us') (sym (pushed notes (Leaves k)))
      (u, us, stack, number, at ∙ ap (λ z. Some z) (sym here), left, before)

  pub left-told : (notes : List Note) (cs : List (Constraint X)) (fs : List Fired) (k : ℕ) → told (reverse (notes ++ Leaves k ∷ [])) cs fs ≡ leaves k ∷ told (reverse notes) cs fs
  left-told notes cs fs k = ap (λ (a : List Note). told a cs fs) (pushed notes (Leaves k))

  -- a rule that fires
  pub fired-kept : (notes : List Note) (cs : List (Constraint X)) (fs : List Fired) (ns : List Node) (ls : List (Node × ℕ)) (us : List (Unlinked ℕ)) (f : Fired)
      → IsKept (reverse notes) cs (reverse fs) ns ls us → IsKept (reverse (notes ++ Fires ∷ [])) cs (reverse (fs ++ f ∷ [])) ns ls us
  fired-kept notes cs fs ns ls us f w = subst (λ zs. IsKept zs cs (reverse (fs ++ f ∷ [])) ns ls us) (sym (pushed notes Fires)) (f, reverse fs, pushed fs f, w)

  pub fired-told : (notes : List Note) (cs : List (Constraint X)) (fs : List Fired) (f : Fired) → told (reverse (notes ++ Fires ∷ [])) cs (reverse (fs ++ f ∷ [])) ≡ fires f ∷ told (reverse notes) cs (reverse fs)
  fired-told notes cs fs f = ap₂ (λ (a : List Note) (b : List Fired). told a cs b) (pushed notes Fires) (pushed fs f)

  pub told-length : (notes : List Note) (cs : List (Constraint X)) (fs : List Fired) (ns : List Node) (ls : List (Node × ℕ)) (us : List (Unlinked ℕ)) → IsKept (reverse notes) cs fs ns ls us → length (told (reverse notes) cs fs) ≡ length notes
  told-length notes cs fs ns ls us w = kept-length (reverse notes) cs fs ns ls us w ∙ length-reverse notes

  pub kept-along : (notes notes' : List Note) (cs cs' : List (Constraint X)) (fs fs' : List Fired) (ns ns' : List Node) (ls ls' : List (Node × ℕ)) (us us' : List (Unlinked ℕ))
      → notes ≡ notes' → cs ≡ cs' → fs ≡ fs' → ns ≡ ns' → ls ≡ ls' → us ≡ us' → IsKept notes cs fs ns ls us → IsKept notes' cs' fs' ns' ls' us'
  kept-along notes notes' cs cs' fs fs' ns ns' ls ls' us us' a b c d e f w =
      subst (λ z. IsKept z cs' fs' ns' ls' us') a (subst (λ z. IsKept notes z fs' ns' ls' us') b (subst (λ z. IsKept notes cs z ns' ls' us') c
      (subst (λ z. IsKept notes cs fs z ls' us') d (subst (λ z. IsKept notes cs fs ns z us') e (subst (λ z. IsKept notes cs fs ns ls z) f w)))))

-- equal where both are there
pub some-first : {A : Type 0} (x y : A) → Some x ≡ Some y → x ≡ y
some-first {A} x y e = ap value e
  where
    value : Option A → A
    value (Some z) = z
    value None = x

-- a log gone back to a mark
pub oldest-less : {X : Type 0} (m : ℕ) (e : Event X) (es : List (Event X)) → m ≤ length es → oldest m (e ∷ es) ≡ oldest m es
oldest-less m e es h = let k : suc (length es) - m ≡ suc (length es - m) = omega (arith, h) in ap (λ (n : ℕ). drop n (e ∷ es)) k

pub oldest-whole : {X : Type 0} (m : ℕ) (es : List (Event X)) → m ≡ length es → oldest m es ≡ es
oldest-whole m es e = let k : length es - m ≡ 0 = omega (arith, e) in ap (λ (n : ℕ). drop n es) k

pub oldest-at : {X : Type 0} (m : ℕ) (log es : List (Event X)) → IsLater log es → m ≡ length log → oldest m es ≡ log
oldest-at m log es w e = ap (λ (n : ℕ). oldest n es) e ∙ (oldest-earlier log es w).1

-- the nodes of a list whose last one goes
pub nodes-cut : (all all' ns ns' : List Node) (ms : List (Node × ℕ)) (n : Node) → all ≡ ns → ns ≡ ns' ++ n ∷ [] → length ms ≡ 1 → all ≡ all' ++ map (λ l. l.0) ms → all' ≡ ns'
nodes-cut all all' ns ns' [] n a b one e = absurd (let z : 0 ≡ 1 = one in omega (arith, z))
nodes-cut all all' ns ns' (m ∷ []) n a b one e = before-last all' ns' m.0 n (sym e ∙ a ∙ b)
nodes-cut all all' ns ns' (m ∷ k ∷ ms) n a b one e = absurd (let z : suc (suc (length ms)) ≡ 1 = one in omega (arith, z))

-- the newest event goes
module _ {X : Type 0} where
  pub unjoined : (older : List Note) (cs cs' : List (Constraint X)) (fs : List Fired) (ns ns' : List Node) (ls ls' ms : List (Node × ℕ)) (us : List (Unlinked ℕ)) (c : Constraint X) (n : Node)
      → IsKept (Joins ∷ older) (reverse cs) fs (reverse ns) ls us → cs ≡ cs' ++ c ∷ [] → ns ≡ ns' ++ n ∷ [] → length ms ≡ 1 → ls ≡ ls' ++ ms → IsKept older (reverse cs') fs (reverse ns') ls' us
  unjoined older cs cs' fs ns ns' ls ls' ms us c n w a b one e =
      let con = popped-rest cs cs' c w.0 w.1 a w.5 in
      let node = popped-rest ns ns' n w.2 w.3 b w.6 in
      let cut = ends-in-one ls' ms w.4 (w.2, suc (length w.1)) one (sym e ∙ w.7) in
      subst (λ z. IsKept older z fs (reverse ns') ls' us) (sym con) (subst (λ z. IsKept older w.1 fs z ls' us) (sym node) (subst (λ z. IsKept older w.1 fs w.3 z us) (sym cut.0) w.8))

  pub unjoined-told : (older : List Note) (cs cs' : List (Constraint X)) (fs : List Fired) (c : Constraint X) → cs ≡ cs' ++ c ∷ [] → told (Joins ∷ older) (reverse cs) fs ≡ joins c ∷ told older (reverse cs') fs
  unjoined-told older cs cs' fs c a = ap (λ z. told (Joins ∷ older) z fs) (ap reverse a ∙ pushed cs' c)

  pub unfired : (older : List Note) (cs : List (Constraint X)) (fs fs' : List Fired) (ns : List Node) (ls : List (Node × ℕ)) (us : List (Unlinked ℕ)) (f : Fired)
      → IsKept (Fires ∷ older) cs (reverse fs) ns ls us → fs ≡ fs' ++ f ∷ [] → IsKept older cs (reverse fs') ns ls us
  unfired older cs fs fs' ns ls us f w a = subst (λ z. IsKept older cs z ns ls us) (sym (popped-rest fs fs' f w.0 w.1 a w.2)) w.3

  pub unfired-told : (older : List Note) (cs : List (Constraint X)) (fs fs' : List Fired) (f : Fired) → fs ≡ fs' ++ f ∷ [] → told (Fires ∷ older) cs (reverse fs) ≡ fires f ∷ told older cs (reverse fs')
  unfired-told older cs fs fs' f a = ap (λ z. told (Fires ∷ older) cs z) (ap reverse a ∙ pushed fs' f)

  -- the firings are the pairs
  pub kept-firings : (notes : List Note) (cs : List (Constraint X)) (fs : List Fired) (ns : List Node) (ls : List (Node × ℕ)) (us : List (Unlinked ℕ)) → IsKept notes cs fs ns ls us → firings (told notes cs fs) ≡ reverse fs
  kept-firings [] cs fs ns ls us w = sym (ap reverse w.1)
  kept-firings (Joins ∷ older) cs fs ns ls us w = ap (λ z. firings (told (Joins ∷ older) z fs)) w.5 ∙ kept-firings older w.1 fs w.3 w.4 us w.8
  kept-firings (Leaves k ∷ older) cs fs ns ls us w = kept-firings older cs fs ns (undone w.0) w.1 w.6
  kept-firings (Fires ∷ older) cs fs ns ls us w = ap (λ z. firings (told (Fires ∷ older) cs z)) w.2 ∙ ap (λ z. z ++ w.0 ∷ []) (kept-firings older cs w.1 ns ls us w.3) ∙ sym (reverse-append (w.0 ∷ []) w.1) ∙ ap reverse (sym w.2)
  kept-firings (Heads v n ∷ older) cs fs ns ls us w = kept-firings older cs fs ns ls us w
  kept-firings (Becomes v u' ∷ older) cs fs ns ls us w = kept-firings older cs fs ns ls us w
  kept-firings (Waits n ∷ older) cs fs ns ls us w = kept-firings older cs fs ns ls us w
  kept-firings (Sleeps n ∷ older) cs fs ns ls us w = kept-firings older cs fs ns ls us w
  kept-firings (Doubts ∷ older) cs fs ns ls us w = kept-firings older cs fs ns ls us w
  kept-firings (Rests ∷ older) cs fs ns ls us w = kept-firings older cs fs ns ls us w

  -- a constraint that left comes back
  pub unleft : (older : List Note) (cs : List (Constraint X)) (fs : List Fired) (ns : List Node) (k : ℕ) (ls ls' : List (Node × ℕ)) (us us' : List (Unlinked ℕ)) (u : Unlinked ℕ)
      → IsKept (Leaves k ∷ older) cs fs ns ls us → us ≡ u ∷ us' → ls' ≡ undone u → IsKept older cs fs ns ls' us'
  unleft older cs fs ns k ls ls' us us' u w e f =
      let stack : w.0 ∷ w.1 ≡ u ∷ us' = sym w.2 ∙ e in
      let same : w.0 ≡ u = same-first w.0 u w.1 us' stack in
      subst (λ z. IsKept older cs fs ns z us') (ap undone same ∙ sym f) (subst (λ z. IsKept older cs fs ns (undone w.0) z) (same-rest w.0 u w.1 us' stack) w.6)
