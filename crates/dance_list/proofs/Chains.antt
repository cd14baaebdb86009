-- How the cells of a list change: what stays, and what the two steps of a splice make.
use Rattle.std.proofs.Common.{◌≡◌, ℕ, zero, suc, ◌<◌, List, [], ◌∷◌, ◌++◌, map, length, Some, None, refl, sym, ap, ◌∙◌, subst, arith}
use Rattle.std.specs.Prelude.{Option, MatchOption, ⊤}
use lib.ListN.{set}
use denote.RawPtr.{Ptr}
use Rattle.dance_list.specs.inside.Blocks.{nth}
use Rattle.dance_list.specs.declared.cells.Node.{Node}
use Rattle.dance_list.specs.declared.chain.Cell.{Cell}
use Rattle.dance_list.specs.Dance.{Unlinked, first_of, last_of, Has, IsHere, put, Run, AllKeep, numbers, kept_numbers, Avoids, Apart}

-- ---- items by index
pub nth-set_same : {A : Type 0} (xs : List A) (i : ℕ) (c d : A) → nth xs i ≡ Some c → nth (set xs i d) i ≡ Some d
unfolding nth
nth-set_same [] i c d e = cc
nth-set_same (x ∷ xs) zero c d e = refl
nth-set_same (x ∷ xs) (suc i) c d e = nth-set_same xs i c d e

pub nth-set_other : {A : Type 0} (xs : List A) (i j : ℕ) (d : A) → ¬ (i ≡ j) → nth (set xs i d) j ≡ nth xs j
unfolding nth
nth-set_other [] i j d ne = refl
nth-set_other (x ∷ xs) zero zero d ne = absurd (ne refl)
nth-set_other (x ∷ xs) zero (suc j) d ne = refl
nth-set_other (x ∷ xs) (suc i) zero d ne = refl
nth-set_other (x ∷ xs) (suc i) (suc j) d ne = nth-set_other xs i j d (λ e. ne (ap suc e))

pub nth-old : {A : Type 0} (xs ys : List A) (i : ℕ) (c : A) → nth xs i ≡ Some c → nth (xs ++ ys) i ≡ Some c
unfolding nth
nth-old [] ys i c e = cc
nth-old (x ∷ xs) ys zero c e = e
nth-old (x ∷ xs) ys (suc i) c e = nth-old xs ys i c e

pub nth-new : {A : Type 0} (xs : List A) (c : A) → nth (xs ++ c ∷ []) (length xs) ≡ Some c
unfolding nth
nth-new [] c = refl
nth-new (x ∷ xs) c = nth-new xs c

pub nth-less : {A : Type 0} (xs : List A) (c d : A) (i : ℕ) → ¬ (i ≡ length xs) → nth (xs ++ c ∷ []) i ≡ Some d → nth xs i ≡ Some d
unfolding nth
nth-less [] c d zero ne e = absurd (ne refl)
nth-less [] c d (suc i) ne e = cc
nth-less (x ∷ xs) c d zero ne e = e
nth-less (x ∷ xs) c d (suc i) ne e = nth-less xs c d i (λ k. ne (ap suc k)) e

pub nth-below : {A : Type 0} (xs : List A) (i : ℕ) (c : A) → nth xs i ≡ Some c → i < length xs
unfolding nth
nth-below [] i c e = cc
nth-below (x ∷ xs) zero c e = omega arith
nth-below (x ∷ xs) (suc i) c e = omega (arith, nth-below xs i c e)

pub heads-set : {A B : Type 0} (cs : List (A × B)) (i : ℕ) (p : A) (c d : B) → nth cs i ≡ Some (p, c) → map (λ z. z.0) (set cs i (p, d)) ≡ map (λ z. z.0) cs
unfolding nth
heads-set [] i p c d e = cc
heads-set {A = A} {B = B} ((q, b) ∷ cs) zero p c d e = let same : ◌≡◌ {A = A × B} (q, b) (p, c) = cc in ap (λ z. z.0 ∷ map (λ y. y.0) cs) (sym same)
heads-set (b ∷ cs) (suc i) p c d e = ap (λ z. b.0 ∷ z) (heads-set cs i p c d e)

pub heads-kept : {A B : Type 0} (cs : List (A × B)) (i j : ℕ) (p q : A) (c d b : B) → nth cs i ≡ Some (p, c) → nth cs j ≡ Some (q, b) → (b' : B) × (nth (set cs i (p, d)) j ≡ Some (q, b'))
unfolding nth
heads-kept [] i j p q c d b e f = cc
heads-kept {A = A} {B = B} (a ∷ cs) zero zero p q c d b e f =
    let both : ◌≡◌ {A = A × B} (p, c) (q, b) = cc in (d, ap (λ z. Some (z.0, d)) both)
heads-kept (a ∷ cs) zero (suc j) p q c d b e f = (b, f)
heads-kept (a ∷ cs) (suc i) zero p q c d b e f = (b, f)
heads-kept (a ∷ cs) (suc i) (suc j) p q c d b e f = heads-kept cs i j p q c d b e f

-- ---- numbers that differ
pub Avoids-append : (k : ℕ) (xs ys : List ℕ) → Avoids k xs → Avoids k ys → Avoids k (xs ++ ys)
unfolding Avoids
Avoids-append k [] ys a b = b
Avoids-append k (x ∷ xs) ys a b = (a.0, Avoids-append k xs ys a.1 b)

pub Avoids-left : (k : ℕ) (xs ys : List ℕ) → Avoids k (xs ++ ys) → Avoids k xs
unfolding Avoids
Avoids-left k [] ys a = tt
Avoids-left k (x ∷ xs) ys a = (a.0, Avoids-left k xs ys a.1)

pub Avoids-right : (k : ℕ) (xs ys : List ℕ) → Avoids k (xs ++ ys) → Avoids k ys
unfolding Avoids
Avoids-right k [] ys a = a
Avoids-right k (x ∷ xs) ys a = Avoids-right k xs ys a.1

-- each of the first is none of the second
unfoldable pub AllAvoid : List ℕ → List ℕ → Type 0
AllAvoid [] ks = ⊤
AllAvoid (j ∷ js) ks = Avoids j ks × AllAvoid js ks

pub Apart-left : (xs ys : List ℕ) → Apart (xs ++ ys) → Apart xs
unfolding Apart
Apart-left [] ys a = tt
Apart-left (x ∷ xs) ys a = (Avoids-left x xs ys a.0, Apart-left xs ys a.1)

pub Apart-right : (xs ys : List ℕ) → Apart (xs ++ ys) → Apart ys
unfolding Apart
Apart-right [] ys a = a
Apart-right (x ∷ xs) ys a = Apart-right xs ys a.1

pub Apart-between : (xs ys : List ℕ) → Apart (xs ++ ys) → AllAvoid xs ys
unfolding Apart AllAvoid
Apart-between [] ys a = tt
Apart-between (x ∷ xs) ys a = (Avoids-right x xs ys a.0, Apart-between xs ys a.1)

pub Apart-append : (xs ys : List ℕ) → Apart xs → Apart ys → AllAvoid xs ys → Apart (xs ++ ys)
unfolding Apart AllAvoid
Apart-append [] ys a b c = b
Apart-append (x ∷ xs) ys a b c = (Avoids-append x xs ys a.0 c.0, Apart-append xs ys a.1 b c.1)

pub AllAvoid-none : (xs : List ℕ) → AllAvoid xs []
unfolding AllAvoid Avoids
AllAvoid-none [] = tt
AllAvoid-none (x ∷ xs) = (tt, AllAvoid-none xs)

pub AllAvoid-cons : (k : ℕ) (xs ys : List ℕ) → Avoids k xs → AllAvoid xs ys → AllAvoid xs (k ∷ ys)
unfolding AllAvoid Avoids
AllAvoid-cons k [] ys a b = tt
AllAvoid-cons k (x ∷ xs) ys a b = ((λ e. a.0 (sym e), b.0), AllAvoid-cons k xs ys a.1 b.1)

pub AllAvoid-head : (k : ℕ) (xs ys : List ℕ) → AllAvoid xs (k ∷ ys) → Avoids k xs
unfolding AllAvoid Avoids
AllAvoid-head k [] ys a = tt
AllAvoid-head k (x ∷ xs) ys a = (λ e. a.0.0 (sym e), AllAvoid-head k xs ys a.1)

pub AllAvoid-tail : (k : ℕ) (xs ys : List ℕ) → AllAvoid xs (k ∷ ys) → AllAvoid xs ys
unfolding AllAvoid Avoids
AllAvoid-tail k [] ys a = tt
AllAvoid-tail k (x ∷ xs) ys a = (a.0.1, AllAvoid-tail k xs ys a.1)

pub AllAvoid-swap : (xs ys : List ℕ) → AllAvoid xs ys → AllAvoid ys xs
unfolding AllAvoid
AllAvoid-swap [] ys a = AllAvoid-none ys
AllAvoid-swap (x ∷ xs) ys a = AllAvoid-cons x ys xs a.0 (AllAvoid-swap xs ys a.1)

pub AllAvoid-append : (xs ys zs : List ℕ) → AllAvoid xs ys → AllAvoid xs zs → AllAvoid xs (ys ++ zs)
unfolding AllAvoid
AllAvoid-append [] ys zs a b = tt
AllAvoid-append (x ∷ xs) ys zs a b = (Avoids-append x ys zs a.0 b.0, AllAvoid-append xs ys zs a.1 b.1)

pub AllAvoid-join : (xs ys zs : List ℕ) → AllAvoid xs zs → AllAvoid ys zs → AllAvoid (xs ++ ys) zs
unfolding AllAvoid
AllAvoid-join [] ys zs a b = b
AllAvoid-join (x ∷ xs) ys zs a b = (a.0, AllAvoid-join xs ys zs a.1 b)

pub AllAvoid-one : (xs : List ℕ) (k : ℕ) → Avoids k xs → AllAvoid xs (k ∷ [])
AllAvoid-one xs k a = AllAvoid-cons k xs [] a (AllAvoid-none xs)

module _ {X : Type 0} where
  -- the cells at all other numbers are the same
  abbrev pub Rest : List (Ptr × Cell X) → List (Ptr × Cell X) → List ℕ → Type 0
  Rest cs ds ks = (j : ℕ) (v : Ptr × Cell X) → Avoids j ks → nth cs j ≡ Some v → nth ds j ≡ Some v

  pub run-rest : (cs ds : List (Ptr × Cell X)) (ks : List ℕ) → Rest cs ds ks → (b : Option Node) (ls : List (Node × X)) (a : Option Node) → AllAvoid (numbers ls) ks → Run cs b ls a → Run ds b ls a
  unfolding Run AllAvoid
  run-rest cs ds ks same b [] a v r = tt
  run-rest cs ds ks same b (l ∷ ls) a v r = (same l.0.number _ v.0 r.0, run-rest cs ds ks same (Some l.0) ls a v.1 r.1)

  pub keep-rest : (cs ds : List (Ptr × Cell X)) (ks : List ℕ) → Rest cs ds ks → (us : List (Unlinked X)) → AllAvoid (kept_numbers us) ks → AllKeep cs us → AllKeep ds us
  unfolding AllKeep AllAvoid
  keep-rest cs ds ks same [] v r = tt
  keep-rest cs ds ks same (u ∷ us) v r = (same u.0.number _ v.0 r.0, keep-rest cs ds ks same us v.1 r.1)

  pub run-before : (cs : List (Ptr × Cell X)) (b : Option Node) (fs gs : List (Node × X)) (a : Option Node) → Run cs b (fs ++ gs) a → Run cs b fs (first_of gs a)
  unfolding Run first_of
  run-before cs b [] gs a r = tt
  run-before cs b (f ∷ []) gs a r = (r.0, tt)
  run-before cs b (f ∷ k ∷ fs) gs a r = (r.0, run-before cs (Some f.0) (k ∷ fs) gs a r.1)

  pub run-after : (cs : List (Ptr × Cell X)) (b : Option Node) (fs gs : List (Node × X)) (a : Option Node) → Run cs b (fs ++ gs) a → Run cs (last_of b fs) gs a
  unfolding Run last_of
  run-after cs b [] gs a r = r
  run-after cs b (f ∷ fs) gs a r = run-after cs (Some f.0) fs gs a r.1

  pub run-join : (cs : List (Ptr × Cell X)) (b : Option Node) (fs gs : List (Node × X)) (a : Option Node) → Run cs b fs (first_of gs a) → Run cs (last_of b fs) gs a → Run cs b (fs ++ gs) a
  unfolding Run first_of last_of
  run-join cs b [] gs a r s = s
  run-join cs b (f ∷ []) gs a r s = (r.0, s)
  run-join cs b (f ∷ k ∷ fs) gs a r s = (r.0, run-join cs (Some f.0) (k ∷ fs) gs a r.1 s)

  pub run-below : (cs : List (Ptr × Cell X)) (b : Option Node) (ls : List (Node × X)) (a : Option Node) → Run cs b ls a → Avoids (length cs) (numbers ls)
  unfolding Run Avoids
  run-below cs b [] a r = tt
  run-below cs b (l ∷ ls) a r = (λ e. let low = nth-below cs l.0.number _ r.0 in omega arith, run-below cs (Some l.0) ls a r.1)

  pub keep-below : (cs : List (Ptr × Cell X)) (us : List (Unlinked X)) → AllKeep cs us → Avoids (length cs) (kept_numbers us)
  unfolding AllKeep Avoids
  keep-below cs [] r = tt
  keep-below cs (u ∷ us) r = (λ e. let low = nth-below cs u.0.number _ r.0 in omega arith, keep-below cs us r.1)

  -- ---- the ends
  pub first-append : (fs gs : List (Node × X)) (a : Option Node) → first_of (fs ++ gs) a ≡ first_of fs (first_of gs a)
  unfolding first_of
  first-append [] gs a = refl
  first-append (f ∷ fs) gs a = refl

  pub last-append : (b : Option Node) (fs gs : List (Node × X)) → last_of b (fs ++ gs) ≡ last_of (last_of b fs) gs
  unfolding last_of
  last-append b [] gs = refl
  last-append b (f ∷ fs) gs = last-append (Some f.0) fs gs

  -- the last node is one of the list
  pub last-there : (cs : List (Ptr × Cell X)) (b b' : Option Node) (l : Node × X) (ls : List (Node × X)) (a : Option Node) → Run cs b (l ∷ ls) a → (m : Node) × (last_of b' (l ∷ ls) ≡ Some m) × IsHere cs m
  unfolding Run last_of
  last-there cs b b' l [] a r = (l.0, refl, (_, r.0))
  last-there cs b b' l (k ∷ ls) a r = last-there cs (Some l.0) (Some l.0) k ls a r.1

  pub last-avoided : (j : ℕ) (b : Option Node) (l : Node × X) (ls : List (Node × X)) (m : Node) → Avoids j (numbers (l ∷ ls)) → last_of b (l ∷ ls) ≡ Some m → ¬ (j ≡ m.number)
  unfolding Avoids last_of
  last-avoided j b l [] m v e = λ k. let same : l.0 ≡ m = cc in v.0 (k ∙ ap (λ n. n.number) (sym same))
  last-avoided j b l (k ∷ ls) m v e = last-avoided j (Some l.0) k ls m v.1 e

  -- ---- a new link from the last node on
  pub relast : (cs ds : List (Ptr × Cell X)) (b : Option Node) (l : Node × X) (ls : List (Node × X)) (a to : Option Node) (m : Node) (c : Cell X) → Rest cs ds (m.number ∷ []) → Run cs b (l ∷ ls) a → Apart (numbers (l ∷ ls))
      → last_of b (l ∷ ls) ≡ Some m → Has cs m c → Has ds m (record c { after = to }) → Run ds b (l ∷ ls) to
  unfolding Run last_of first_of Apart Avoids
  relast cs ds b l [] a to m c same r v e h k =
      let at : m ≡ l.0 = cc in
      let was : c ≡ record { before = b; after = a; item = l.1 } = let there : Has cs l.0 c = subst (λ n. Has cs n c) at h in let both : ◌≡◌ {A = Ptr × Cell X} (l.0.place.ptr, c) (l.0.place.ptr, record { before = b; after = a; item = l.1 }) = cc in ap (λ z. z.1) both in
      (subst (λ n. Has ds n (record { before = b; after = to; item = l.1 })) at (subst (λ z. Has ds m (record z { after = to })) was k), tt)
  relast cs ds b l (g ∷ ls) a to m c same r v e h k =
      (same l.0.number _ (last-avoided l.0.number (Some l.0) g ls m v.0 e, tt) r.0, relast cs ds (Some l.0) g ls a to m c same r.1 v.1 e h k)

  -- ---- a new link from the first node back
  pub refirst : (cs ds : List (Ptr × Cell X)) (b from : Option Node) (l : Node × X) (ls : List (Node × X)) (a : Option Node) (m : Node) (c : Cell X) → Rest cs ds (m.number ∷ []) → Run cs b (l ∷ ls) a → Apart (numbers (l ∷ ls))
      → Some l.0 ≡ Some m → Has cs m c → Has ds m (record c { before = from }) → Run ds from (l ∷ ls) a
  unfolding Run first_of Apart
  refirst cs ds b from l ls a m c same r v e h k =
      let at : m ≡ l.0 = cc in
      let was : c ≡ record { before = b; after = first_of ls a; item = l.1 } = let there : Has cs l.0 c = subst (λ n. Has cs n c) at h in let both : ◌≡◌ {A = Ptr × Cell X} (l.0.place.ptr, c) (l.0.place.ptr, record { before = b; after = first_of ls a; item = l.1 }) = cc in ap (λ z. z.1) both in (
        subst (λ n. Has ds n (record { before = from; after = first_of ls a; item = l.1 })) at (subst (λ z. Has ds m (record z { before = from })) was k),
        run-rest cs ds (m.number ∷ []) same (Some l.0) ls a (AllAvoid-one (numbers ls) m.number (subst (λ n. Avoids n.number (numbers ls)) (sym at) v.0)) r.1,
      )

  pub put-rest : (cs : List (Ptr × Cell X)) (m : Node) (c : Cell X) → Rest cs (put cs m c) (m.number ∷ [])
  unfolding Avoids
  put-rest cs m c j v ne e = nth-set_other cs m.number j (m.place.ptr, c) (λ k. ne.0 (sym k)) ∙ e

  -- ---- the two steps of a splice
  -- `at` leads on to `to`, or the list begins with it
  abbrev pub Onward : List (Ptr × Cell X) → Option Node → Option Node → Option Node → List (Ptr × Cell X) → Option Node → Type 0
  Onward cs first at to ds first' = MatchOption at ((first' ≡ to) × (ds ≡ cs)) (λ m. (first' ≡ first) × ((c : Cell X) × Has cs m c × (ds ≡ put cs m (record c { after = to }))))

  -- `at` leads back to `from`, or the list ends with it
  abbrev pub Backward : List (Ptr × Cell X) → Option Node → Option Node → Option Node → List (Ptr × Cell X) → Option Node → Type 0
  Backward cs last at from ds last' = MatchOption at ((last' ≡ from) × (ds ≡ cs)) (λ m. (last' ≡ last) × ((c : Cell X) × Has cs m c × (ds ≡ put cs m (record c { before = from }))))

  pub onward : (cs ds : List (Ptr × Cell X)) (fs : List (Node × X)) (a to first first' : Option Node) → Run cs None fs a → Apart (numbers fs) → first ≡ first_of fs first → Onward cs first (last_of None fs) to ds first'
      → Run ds None fs to × (first' ≡ first_of fs to) × Rest cs ds (numbers fs) × (map (λ z. z.0) ds ≡ map (λ z. z.0) cs)
  unfolding Run first_of last_of Avoids
  onward cs ds [] a to first first' r v e o = (tt, o.0, (λ j w ne k. subst (λ z. nth z j ≡ Some w) (sym o.1) k), ap (map (λ z. z.0)) o.1)
  onward cs ds (l ∷ ls) a to first first' r v e o =
      let end = last-there cs None None l ls a r in
      let m : Node = end.0 in
      let step : (first' ≡ first) × ((c : Cell X) × Has cs m c × (ds ≡ put cs m (record c { after = to }))) = subst (λ z. Onward cs first z to ds first') end.1 o in
      let c : Cell X = step.1.0 in
      let d : Cell X = record c { after = to } in
      let one : Rest cs ds (m.number ∷ []) = subst (λ z. Rest cs z (m.number ∷ [])) (sym step.1.2) (put-rest cs m d) in
      let there : Has ds m d = subst (λ z. Has z m d) (sym step.1.2) (nth-set_same cs m.number (m.place.ptr, c) (m.place.ptr, d) step.1.1) in (
        relast cs ds None l ls a to m c one r v end.1 step.1.1 there,
        step.0 ∙ e,
        (λ j w ne k. one j w (last-avoided j None l ls m ne end.1, tt) k),
        ap (map (λ z. z.0)) step.1.2 ∙ heads-set cs m.number m.place.ptr c d step.1.1,
      )

  pub backward : (cs ds : List (Ptr × Cell X)) (gs : List (Node × X)) (b from last last' : Option Node) → Run cs b gs None → Apart (numbers gs) → last ≡ last_of last gs → Backward cs last (first_of gs None) from ds last'
      → Run ds from gs None × (last' ≡ last_of from gs) × Rest cs ds (numbers gs) × (map (λ z. z.0) ds ≡ map (λ z. z.0) cs)
  unfolding Run first_of last_of Avoids
  backward cs ds [] b from last last' r v e o = (tt, o.0, (λ j w ne k. subst (λ z. nth z j ≡ Some w) (sym o.1) k), ap (map (λ z. z.0)) o.1)
  backward cs ds (l ∷ ls) b from last last' r v e o =
      let m : Node = l.0 in
      let step : (last' ≡ last) × ((c : Cell X) × Has cs m c × (ds ≡ put cs m (record c { before = from }))) = o in
      let c : Cell X = step.1.0 in
      let d : Cell X = record c { before = from } in
      let one : Rest cs ds (m.number ∷ []) = subst (λ z. Rest cs z (m.number ∷ [])) (sym step.1.2) (put-rest cs m d) in
      let there : Has ds m d = subst (λ z. Has z m d) (sym step.1.2) (nth-set_same cs m.number (m.place.ptr, c) (m.place.ptr, d) step.1.1) in (
        refirst cs ds b from l ls None m c one r v refl step.1.1 there,
        step.0 ∙ e,
        (λ j w ne k. one j w (ne.0, tt) k),
        ap (map (λ z. z.0)) step.1.2 ∙ heads-set cs m.number m.place.ptr c d step.1.1,
      )

  pub splice : (cs ds es : List (Ptr × Cell X)) (fs gs : List (Node × X)) (a b to from first first' last last' : Option Node) → Run cs None fs a → Run cs b gs None → Apart (numbers fs ++ numbers gs)
      → first ≡ first_of fs first → last ≡ last_of last gs → Onward cs first (last_of None fs) to ds first' → Backward ds last (first_of gs None) from es last'
      → Run es None fs to × Run es from gs None × (first' ≡ first_of fs to) × (last' ≡ last_of from gs) × Rest cs es (numbers fs ++ numbers gs) × (map (λ z. z.0) es ≡ map (λ z. z.0) cs)
  splice cs ds es fs gs a b to from first first' last last' rf rg v ef eg o w =
      let between = Apart-between (numbers fs) (numbers gs) v in
      let one = onward cs ds fs a to first first' rf (Apart-left (numbers fs) (numbers gs) v) ef o in
      let two = backward ds es gs b from last last' (run-rest cs ds (numbers fs) one.2 b gs None (AllAvoid-swap (numbers fs) (numbers gs) between) rg) (Apart-right (numbers fs) (numbers gs) v) eg w in (
        run-rest ds es (numbers gs) two.2 None fs to between one.0,
        two.0,
        one.1,
        two.1,
        (λ j u ne k. two.2 j u (Avoids-right j (numbers fs) (numbers gs) ne) (one.2 j u (Avoids-left j (numbers fs) (numbers gs) ne) k)),
        two.3 ∙ one.3,
      )

  pub begins : (first z : Option Node) (fs : List (Node × X)) → first ≡ first_of fs z → first ≡ first_of fs first
  unfolding first_of
  begins first z [] e = refl
  begins first z (f ∷ fs) e = e

  pub finishes : (last z : Option Node) (gs : List (Node × X)) → last ≡ last_of z gs → last ≡ last_of last gs
  unfolding last_of
  finishes last z [] e = refl
  finishes last z (g ∷ gs) e = e

  pub here-last : (cs : List (Ptr × Cell X)) (fs : List (Node × X)) (a : Option Node) → Run cs None fs a → MatchOption (last_of None fs) ⊤ (λ m. IsHere cs m)
  unfolding last_of
  here-last cs [] a r = tt
  here-last cs (f ∷ fs) a r = let end = last-there cs None None f fs a r in subst (λ z. MatchOption z ⊤ (λ m. IsHere cs m)) (sym end.1) end.2

  pub here-first : (cs : List (Ptr × Cell X)) (b : Option Node) (gs : List (Node × X)) → Run cs b gs None → MatchOption (first_of gs None) ⊤ (λ m. IsHere cs m)
  unfolding first_of Run
  here-first cs b [] r = tt
  here-first cs b (g ∷ gs) r = (_, r.0)

  here-onward : (cs ds : List (Ptr × Cell X)) (first first' at to : Option Node) (m : Node) → Onward cs first at to ds first' → IsHere cs m → IsHere ds m
  here-onward cs ds first first' None to m o h = subst (λ z. IsHere z m) (sym o.1) h
  here-onward cs ds first first' (Some k) to m o h =
      let c : Cell X = o.1.0 in let d : Cell X = record c { after = to } in
      let r = heads-kept cs k.number m.number k.place.ptr m.place.ptr c d h.0 o.1.1 h.1 in subst (λ z. IsHere z m) (sym o.1.2) (r.0, r.1)

  pub here-kept : (cs ds : List (Ptr × Cell X)) (first first' at to other : Option Node) → Onward cs first at to ds first' → MatchOption other ⊤ (λ m. IsHere cs m) → MatchOption other ⊤ (λ m. IsHere ds m)
  here-kept cs ds first first' at to None o h = tt
  here-kept cs ds first first' at to (Some m) o h = here-onward cs ds first first' at to m o h
