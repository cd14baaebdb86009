-- What each step makes of a list.
use Rattle.std.proofs.Common.{◌≡◌, ℕ, zero, suc, ◌+◌, ◌<◌, List, [], ◌∷◌, ◌++◌, map, length, Some, None, refl, sym, ap, ◌∙◌, subst, arith, length-append, append-nil}
use Rattle.std.proofs.lemmas.List.{length-map}
use Rattle.std.proofs.Common.{drop, Result, Ok, Err, is_err, is_ok, false, OnOk, IsOk, if◌then◌else◌}
use mathlib.Core.List.{map-append, append_assoc}
use Rattle.std.specs.Prelude.{Option, MatchOption, ⊤}
use denote.RawPtr.{Ptr}
use Rattle.dance_list.specs.inside.Blocks.{nth}
use Rattle.dance_list.specs.declared.cells.Node.{Node}
use Rattle.dance_list.specs.declared.chain.Cell.{Cell}
use Rattle.dance_list.specs.Dance.{Unlinked, undone, left_by, first_of, last_of, Has, IsHere, Run, AllKeep, numbers, kept_numbers, Avoids, Apart, Numbered, IsDance}
use Rattle.dance_list.proofs.Chains.{nth-old, nth-new, nth-less, Avoids-append, Avoids-left, Avoids-right, AllAvoid, Apart-left, Apart-right, Apart-between, Apart-append, AllAvoid-none, AllAvoid-cons, AllAvoid-head, AllAvoid-tail, AllAvoid-swap, AllAvoid-join, AllAvoid-one, Rest, run-rest, keep-rest, run-before, run-after, run-join, run-below, keep-below, first-append, last-append, Onward, Backward, splice, begins, finishes, here-last, here-first, here-kept}

AllAvoid-left : (xs ys zs : List ℕ) → AllAvoid (xs ++ ys) zs → AllAvoid xs zs
unfolding AllAvoid
AllAvoid-left [] ys zs a = tt
AllAvoid-left (x ∷ xs) ys zs a = (a.0, AllAvoid-left xs ys zs a.1)

AllAvoid-right : (xs ys zs : List ℕ) → AllAvoid (xs ++ ys) zs → AllAvoid ys zs
unfolding AllAvoid
AllAvoid-right [] ys zs a = a
AllAvoid-right (x ∷ xs) ys zs a = AllAvoid-right xs ys zs a.1

-- a number among others, and those others
pub record Alone (k : ℕ) (xs us : List ℕ) : Type 0 where
  pub here : Avoids k xs
  pub there : Avoids k us
  pub these : Apart xs
  pub those : Apart us
  pub both : AllAvoid xs us

Apart-out : (xs ys us : List ℕ) (k : ℕ) → Apart ((xs ++ k ∷ ys) ++ us) → Alone k (xs ++ ys) us
unfolding Apart AllAvoid
Apart-out xs ys us k a =
    let l = Apart-left (xs ++ k ∷ ys) us a in
    let r = Apart-right xs (k ∷ ys) l in
    let b = Apart-between xs (k ∷ ys) l in
    let c = Apart-between (xs ++ k ∷ ys) us a in
    let d = AllAvoid-right xs (k ∷ ys) us c in
    record {
      here = Avoids-append k xs ys (AllAvoid-head k xs ys b) r.0;
      there = d.0;
      these = Apart-append xs ys (Apart-left xs (k ∷ ys) l) r.1 (AllAvoid-tail k xs ys b);
      those = Apart-right (xs ++ k ∷ ys) us a;
      both = AllAvoid-join xs ys us (AllAvoid-left xs (k ∷ ys) us c) d.1;
    }

Apart-in : (xs ys us : List ℕ) (k : ℕ) → Alone k (xs ++ ys) us → Apart ((xs ++ k ∷ ys) ++ us)
unfolding Apart AllAvoid
Apart-in xs ys us k a =
    let b = Apart-between xs ys a.these in
    Apart-append (xs ++ k ∷ ys) us
    (Apart-append xs (k ∷ ys) (Apart-left xs ys a.these) (Avoids-right k xs ys a.here, Apart-right xs ys a.these) (AllAvoid-cons k xs ys (Avoids-left k xs ys a.here) b))
    a.those
    (AllAvoid-join xs (k ∷ ys) us (AllAvoid-left xs ys us a.both) (a.there, AllAvoid-right xs ys us a.both))

Alone-last : (xs us : List ℕ) (k : ℕ) → Apart (xs ++ k ∷ us) → Alone k xs us
unfolding Apart AllAvoid
Alone-last xs us k a =
    let r = Apart-right xs (k ∷ us) a in let b = Apart-between xs (k ∷ us) a in
    record { here = AllAvoid-head k xs us b; there = r.0; these = Apart-left xs (k ∷ us) a; those = r.1; both = AllAvoid-tail k xs us b }

Last-alone : (xs us : List ℕ) (k : ℕ) → Alone k xs us → Apart (xs ++ k ∷ us)
unfolding Apart AllAvoid
Last-alone xs us k a = Apart-append xs (k ∷ us) a.these (a.there, a.those) (AllAvoid-cons k xs us a.here a.both)

Numbered-snoc : (k : ℕ) (ns : List Node) (n : Node) → Numbered k ns → n.number ≡ k + length ns → Numbered k (ns ++ n ∷ [])
unfolding Numbered
Numbered-snoc k [] n a e = (omega (arith, e), tt)
Numbered-snoc k (m ∷ ns) n a e = (a.0, Numbered-snoc (suc k) ns n a.1 (omega (arith, e)))

Numbered-init : (k : ℕ) (ns : List Node) (n : Node) → Numbered k (ns ++ n ∷ []) → Numbered k ns × (n.number ≡ k + length ns)
unfolding Numbered
Numbered-init k [] n a = (tt, omega (arith, a.0))
Numbered-init k (m ∷ ns) n a = let r = Numbered-init (suc k) ns n a.1 in ((a.0, r.0), omega (arith, r.1))

pub snoc-init : {A : Type 0} (xs ys : List A) (x y : A) → xs ++ x ∷ [] ≡ ys ++ y ∷ [] → xs ≡ ys
snoc-init [] [] x y e = refl
snoc-init [] (b ∷ []) x y e = cc
snoc-init [] (b ∷ c ∷ ys) x y e = cc
snoc-init (a ∷ []) [] x y e = cc
snoc-init (a ∷ c ∷ xs) [] x y e = cc
snoc-init (a ∷ xs) (b ∷ ys) x y e = let heads : a ≡ b = cc in let tails : xs ++ x ∷ [] ≡ ys ++ y ∷ [] = cc in λ i. heads i ∷ snoc-init xs ys x y tails i

pub snoc-last : {A : Type 0} (xs ys : List A) (x y : A) → xs ++ x ∷ [] ≡ ys ++ y ∷ [] → x ≡ y
snoc-last [] [] x y e = cc
snoc-last [] (b ∷ []) x y e = cc
snoc-last [] (b ∷ c ∷ ys) x y e = cc
snoc-last (a ∷ []) [] x y e = cc
snoc-last (a ∷ c ∷ xs) [] x y e = cc
snoc-last (a ∷ xs) (b ∷ ys) x y e = let tails : xs ++ x ∷ [] ≡ ys ++ y ∷ [] = cc in snoc-last xs ys x y tails

module _ {X : Type 0} where
  pub last-block : (ns : List Node) (n : Node) (es : List (Ptr × Cell X)) → map (λ m. m.place.ptr) (ns ++ n ∷ []) ≡ map (λ c. c.0) es → (cs : List (Ptr × Cell X)) × (c : Cell X) × (es ≡ cs ++ (n.place.ptr, c) ∷ [])
  last-block [] n [] e = cc
  last-block [] n (b ∷ []) e = let at : b.0 ≡ n.place.ptr = cc in ([], b.1, (λ i. (at i, b.1) ∷ []))
  last-block [] n (b ∷ c ∷ es) e = cc
  last-block (m ∷ ns) n [] e = cc
  last-block (m ∷ ns) n (b ∷ es) e =
      let tails : map (λ k. k.place.ptr) (ns ++ n ∷ []) ≡ map (λ c. c.0) es = cc in
      let r = last-block ns n es tails in (b ∷ r.0, r.1, ap (λ z. b ∷ z) r.2)

  pub one-cell : (cs : List (Ptr × Cell X)) (n : Node) (c d : Cell X) → Has cs n c → Has cs n d → c ≡ d
  one-cell cs n c d h k = let both : ◌≡◌ {A = Ptr × Cell X} (n.place.ptr, c) (n.place.ptr, d) = cc in ap (λ z. z.1) both

  pub cell-at : (cs : List (Ptr × Cell X)) (first last : Option Node) (ns : List Node) (ls : List (Node × X)) (us : List (Unlinked X)) → IsDance cs first last ns ls us
      → (fs gs : List (Node × X)) (n : Node) (x : X) → ls ≡ fs ++ (n, x) ∷ gs → Has cs n (record { before = last_of None fs; after = first_of gs None; item = x })
  unfolding Run
  cell-at cs first last ns ls us d fs gs n x e = (run-after cs None fs ((n, x) ∷ gs) None (subst (λ z. Run cs None z None) e d.runs)).0

  pub unlinks : (cs ds es : List (Ptr × Cell X)) (first first' last last' : Option Node) (ns : List Node) (ls : List (Node × X)) (us : List (Unlinked X)) (u : Unlinked X) → IsDance cs first last ns ls us → ls ≡ undone u
      → Onward cs first (last_of None u.2) (first_of u.3 None) ds first' → Backward ds last (first_of u.3 None) (last_of None u.2) es last' → IsDance es first' last' ns (left_by u) (u ∷ us)
  unfolding Run AllKeep last_of
  unlinks cs ds es first first' last last' ns ls us u d e o w =
      let n : Node = u.0 in let x : X = u.1 in let fs : List (Node × X) = u.2 in let gs : List (Node × X) = u.3 in let hs : List (Node × X) = (n, x) ∷ gs in
      let run : Run cs None (fs ++ hs) None = subst (λ z. Run cs None z None) e d.runs in
      let after = run-after cs None fs hs None run in
      let alone = Apart-out (numbers fs) (numbers gs) (kept_numbers us) n.number (subst (λ z. Apart (z ++ kept_numbers us)) (ap numbers e ∙ map-append (λ l. l.0.number) fs hs) d.apart) in
      let made = splice cs ds es fs gs (first_of hs None) (Some n) (first_of gs None) (last_of None fs) first first' last last' (run-before cs None fs hs None run) after.1 alone.these
      (begins first (first_of hs None) fs (d.starts ∙ ap (λ z. first_of z None) e ∙ first-append fs hs None)) (finishes last (Some n) gs (d.ends ∙ ap (last_of None) e ∙ last-append None fs hs)) o w in
      let long = ap length e ∙ length-append fs hs in
      record {
        starts = made.2 ∙ sym (first-append fs gs None);
        ends = made.3 ∙ sym (last-append None fs gs);
        runs = run-join es None fs gs None made.0 made.1;
        keeps = (made.4 n.number _ alone.here after.0, keep-rest cs es (numbers fs ++ numbers gs) made.4 us (AllAvoid-swap (numbers fs ++ numbers gs) (kept_numbers us) alone.both) d.keeps);
        apart = subst (λ z. Apart (z ++ (n.number ∷ kept_numbers us))) (sym (map-append (λ l. l.0.number) fs gs)) (Last-alone (numbers fs ++ numbers gs) (kept_numbers us) n.number alone);
        counts = omega (arith, d.counts, long, length-append fs gs);
        places = d.places ∙ sym made.5;
        numbered = d.numbered;
      }

  pub relinks : (cs ds es : List (Ptr × Cell X)) (first first' last last' : Option Node) (ns : List Node) (ls : List (Node × X)) (us : List (Unlinked X)) (u : Unlinked X) → IsDance cs first last ns ls (u ∷ us) → ls ≡ left_by u
      → Onward cs first (last_of None u.2) (Some u.0) ds first' → Backward ds last (first_of u.3 None) (Some u.0) es last' → IsDance es first' last' ns (undone u) us
  unfolding Run AllKeep last_of first_of
  relinks cs ds es first first' last last' ns ls us u d e o w =
      let n : Node = u.0 in let x : X = u.1 in let fs : List (Node × X) = u.2 in let gs : List (Node × X) = u.3 in let hs : List (Node × X) = (n, x) ∷ gs in
      let run : Run cs None (fs ++ gs) None = subst (λ z. Run cs None z None) e d.runs in
      let alone = Alone-last (numbers fs ++ numbers gs) (kept_numbers us) n.number (subst (λ z. Apart (z ++ (n.number ∷ kept_numbers us))) (ap numbers e ∙ map-append (λ l. l.0.number) fs gs) d.apart) in
      let made = splice cs ds es fs gs (first_of gs None) (last_of None fs) (Some n) (Some n) first first' last last' (run-before cs None fs gs None run) (run-after cs None fs gs None run) alone.these
      (begins first (first_of gs None) fs (d.starts ∙ ap (λ z. first_of z None) e ∙ first-append fs gs None)) (finishes last (last_of None fs) gs (d.ends ∙ ap (last_of None) e ∙ last-append None fs gs)) o w in
      let long = ap length e ∙ length-append fs gs in
      record {
        starts = made.2 ∙ sym (first-append fs hs None);
        ends = made.3 ∙ sym (last-append None fs hs);
        runs = run-join es None fs hs None made.0 (made.4 n.number _ alone.here d.keeps.0, made.1);
        keeps = keep-rest cs es (numbers fs ++ numbers gs) made.4 us (AllAvoid-swap (numbers fs ++ numbers gs) (kept_numbers us) alone.both) d.keeps.1;
        apart = subst (λ z. Apart (z ++ kept_numbers us)) (sym (map-append (λ l. l.0.number) fs hs)) (Apart-in (numbers fs) (numbers gs) (kept_numbers us) n.number alone);
        counts = omega (arith, d.counts, long, length-append fs hs);
        places = d.places ∙ sym made.5;
        numbered = d.numbered;
      }

  -- the newest node goes, once it is unlinked
  pub discards : (cs ds : List (Ptr × Cell X)) (first last : Option Node) (ns : List Node) (n : Node) (c : Cell X) (ls : List (Node × X)) (us : List (Unlinked X)) (u : Unlinked X)
      → IsDance cs first last (ns ++ n ∷ []) ls (u ∷ us) → u.0 ≡ n → cs ≡ ds ++ (n.place.ptr, c) ∷ [] → IsDance ds first last ns ls us
  unfolding AllKeep Avoids
  discards cs ds first last ns n c ls us u d at e =
      let alone = Alone-last (numbers ls) (kept_numbers us) u.0.number d.apart in
      let count = Numbered-init 0 ns n d.numbered in
      let places = snoc-init (map (λ m. m.place.ptr) ns) (map (λ z. z.0) ds) n.place.ptr n.place.ptr (sym (map-append (λ m. m.place.ptr) ns (n ∷ [])) ∙ d.places ∙ ap (map (λ z. z.0)) e ∙ map-append (λ z. z.0) ds ((n.place.ptr, c) ∷ [])) in
      let plain : n.number ≡ length ns = omega (arith, count.1) in
      let number : u.0.number ≡ length ds = ap (λ m. m.number) at ∙ plain ∙ sym (length-map ns (λ m. m.place.ptr)) ∙ ap length places ∙ length-map ds (λ z. z.0) in
      let same : Rest cs ds (u.0.number ∷ []) = λ j v ne k. nth-less ds (n.place.ptr, c) v j (λ f. ne.0 (f ∙ sym number)) (subst (λ z. nth z j ≡ Some v) e k) in
      record {
        starts = d.starts;
        ends = d.ends;
        runs = run-rest cs ds (u.0.number ∷ []) same None ls None (AllAvoid-one (numbers ls) u.0.number alone.here) d.runs;
        keeps = keep-rest cs ds (u.0.number ∷ []) same us (AllAvoid-one (kept_numbers us) u.0.number alone.there) d.keeps.1;
        apart = Apart-append (numbers ls) (kept_numbers us) alone.these alone.those alone.both;
        counts = omega (arith, d.counts, length-append ns (n ∷ []));
        places = places;
        numbered = count.0;
      }

  pub pushes : (cs ds es : List (Ptr × Cell X)) (first first' last last' : Option Node) (ns : List Node) (ls : List (Node × X)) (us : List (Unlinked X)) (n : Node) (x : X) → IsDance cs first last ns ls us → n.number ≡ length ns
      → Onward (cs ++ (n.place.ptr, record { before = last; after = None; item = x }) ∷ []) first last (Some n) ds first' → Backward ds last None (Some n) es last' → IsDance es first' last' (ns ++ n ∷ []) (ls ++ (n, x) ∷ []) us
  unfolding Run last_of first_of
  pushes cs ds es first first' last last' ns ls us n x d count o w =
      let c : Cell X = record { before = last; after = None; item = x } in let more : List (Ptr × Cell X) = cs ++ (n.place.ptr, c) ∷ [] in let hs : List (Node × X) = (n, x) ∷ [] in
      let old : Rest cs more [] = λ j v ne k. nth-old cs ((n.place.ptr, c) ∷ []) j v k in
      let number : n.number ≡ length cs = count ∙ sym (length-map ns (λ m. m.place.ptr)) ∙ ap length d.places ∙ length-map cs (λ z. z.0) in
      let new : Has more n c = subst (λ k. nth more k ≡ Some (n.place.ptr, c)) (sym number) (nth-new cs (n.place.ptr, c)) in
      let here : Avoids n.number (numbers ls) = subst (λ k. Avoids k (numbers ls)) (sym number) (run-below cs None ls None d.runs) in
      let there : Avoids n.number (kept_numbers us) = subst (λ k. Avoids k (kept_numbers us)) (sym number) (keep-below cs us d.keeps) in
      let from_zero : n.number ≡ 0 + length ns = omega (arith, count) in
      let nil : numbers ls ≡ numbers ls ++ [] = sym (append-nil (numbers ls)) in
      let these : Apart (numbers ls ++ []) = subst Apart nil (Apart-left (numbers ls) (kept_numbers us) d.apart) in
      let both : AllAvoid (numbers ls ++ []) (kept_numbers us) = subst (λ z. AllAvoid z (kept_numbers us)) nil (Apart-between (numbers ls) (kept_numbers us) d.apart) in
      let made = splice more ds es ls [] None None (Some n) (Some n) first first' last last' (run-rest cs more [] old None ls None (AllAvoid-none (numbers ls)) d.runs) tt these
      (begins first None ls d.starts) refl (subst (λ z. Onward more first z (Some n) ds first') d.ends o) w in
      let alone : Alone n.number (numbers ls ++ []) (kept_numbers us) = record { here = subst (Avoids n.number) nil here; there = there; these = these; those = Apart-right (numbers ls) (kept_numbers us) d.apart; both = both } in
      let kept : Has es n (record { before = last_of None ls; after = None; item = x }) = subst (λ z. Has es n (record { before = z; after = None; item = x })) d.ends (made.4 n.number _ alone.here new) in
      record {
        starts = made.2 ∙ sym (first-append ls hs None);
        ends = made.3 ∙ sym (last-append None ls hs);
        runs = run-join es None ls hs None made.0 (kept, tt);
        keeps = keep-rest more es (numbers ls ++ []) made.4 us (AllAvoid-swap (numbers ls ++ []) (kept_numbers us) both) (keep-rest cs more [] old us (AllAvoid-none (kept_numbers us)) d.keeps);
        apart = subst (λ z. Apart (z ++ kept_numbers us)) (sym (map-append (λ l. l.0.number) ls hs)) (Apart-in (numbers ls) [] (kept_numbers us) n.number alone);
        counts = omega (arith, d.counts, length-append ls hs, length-append ns (n ∷ []));
        places = map-append (λ m. m.place.ptr) ns (n ∷ []) ∙ ap (λ z. z ++ n.place.ptr ∷ []) d.places ∙ sym (map-append (λ z. z.0) cs ((n.place.ptr, c) ∷ [])) ∙ sym made.5;
        numbered = Numbered-snoc 0 ns n d.numbered from_zero;
      }

  pub pops : (cs ds es fs : List (Ptr × Cell X)) (first first' last last' : Option Node) (ns : List Node) (n : Node) (c : Cell X) (ls ms : List (Node × X)) (x : X) (us : List (Unlinked X)) → IsDance cs first last (ns ++ n ∷ []) ls us → ls ≡ ms ++ (n, x) ∷ []
      → Onward cs first (last_of None ms) None ds first' → Backward ds last None (last_of None ms) es last' → es ≡ fs ++ (n.place.ptr, c) ∷ [] → IsDance fs first' last' ns ms us
  unfolding first_of
  pops cs ds es fs first first' last last' ns n c ls ms x us d e o w k =
      subst (λ z. IsDance fs first' last' ns z us) (append-nil ms)
      (discards es fs first' last' ns n c (ms ++ []) us (n, x, ms, []) (unlinks cs ds es first first' last last' (ns ++ n ∷ []) ls us (n, x, ms, []) d e o w) refl k)

  -- ---- as the calls meet them: c is the cell that was read at n
  abbrev Kept : Unlinked X → Cell X
  Kept u = record { before = last_of None u.2; after = first_of u.3 None; item = u.1 }

  module _ (cs : List (Ptr × Cell X)) (first last : Option Node) (ns : List Node) (ls : List (Node × X)) (us : List (Unlinked X)) (n : Node) (u : Unlinked X) (at : u.0 ≡ n) where
    module _ (d : IsDance cs first last ns ls us) (e : ls ≡ undone u) where
      pub unlink-here : IsHere cs n
      unlink-here = (Kept u, subst (λ z. Has cs z (Kept u)) at (cell-at cs first last ns ls us d u.2 u.3 u.0 u.1 e))

      module _ (c : Cell X) (h : Has cs n c) where
        is : Kept u ≡ c
        is = one-cell cs n (Kept u) c (subst (λ z. Has cs z (Kept u)) at (cell-at cs first last ns ls us d u.2 u.3 u.0 u.1 e)) h

        run : Run cs None (u.2 ++ (u.0, u.1) ∷ u.3) None
        run = subst (λ z. Run cs None z None) e d.runs

        pub unlink-before : MatchOption c.before ⊤ (λ m. IsHere cs m)
        unlink-before = subst (λ z. MatchOption z.before ⊤ (λ m. IsHere cs m)) is (here-last cs u.2 _ (run-before cs None u.2 ((u.0, u.1) ∷ u.3) None run))

        follows : MatchOption c.after ⊤ (λ m. IsHere cs m)
        unfolding Run
        follows = subst (λ z. MatchOption z.after ⊤ (λ m. IsHere cs m)) is (here-first cs (Some u.0) u.3 (run-after cs None u.2 ((u.0, u.1) ∷ u.3) None run).1)

        pub unlink-after : (ds : List (Ptr × Cell X)) (first' : Option Node) → Onward cs first c.before c.after ds first' → MatchOption c.after ⊤ (λ m. IsHere ds m)
        unlink-after ds first' o = here-kept cs ds first first' c.before c.after c.after o follows

        pub unlink-whole : (ds es : List (Ptr × Cell X)) (first' last' : Option Node) → Onward cs first c.before c.after ds first' → Backward ds last c.after c.before es last' → IsDance es first' last' ns (left_by u) (u ∷ us)
        unlink-whole ds es first' last' o w =
            unlinks cs ds es first first' last last' ns ls us u d e (subst (λ z. Onward cs first z.before z.after ds first') (sym is) o) (subst (λ z. Backward ds last z.after z.before es last') (sym is) w)

    module _ (d : IsDance cs first last ns ls (u ∷ us)) (e : ls ≡ left_by u) where
      pub relink-here : IsHere cs n
      unfolding AllKeep
      relink-here = (Kept u, subst (λ z. Has cs z (Kept u)) at d.keeps.0)

      module _ (c : Cell X) (h : Has cs n c) where
        same : Kept u ≡ c
        unfolding AllKeep
        same = one-cell cs n (Kept u) c (subst (λ z. Has cs z (Kept u)) at d.keeps.0) h

        whole : Run cs None (u.2 ++ u.3) None
        whole = subst (λ z. Run cs None z None) e d.runs

        pub relink-before : MatchOption c.before ⊤ (λ m. IsHere cs m)
        relink-before = subst (λ z. MatchOption z.before ⊤ (λ m. IsHere cs m)) same (here-last cs u.2 _ (run-before cs None u.2 u.3 None whole))

        pub relink-after : (ds : List (Ptr × Cell X)) (first' : Option Node) → Onward cs first c.before (Some n) ds first' → MatchOption c.after ⊤ (λ m. IsHere ds m)
        relink-after ds first' o =
            here-kept cs ds first first' c.before (Some n) c.after o (subst (λ z. MatchOption z.after ⊤ (λ m. IsHere cs m)) same (here-first cs (last_of None u.2) u.3 (run-after cs None u.2 u.3 None whole)))

        pub relink-whole : (ds es : List (Ptr × Cell X)) (first' last' : Option Node) → Onward cs first c.before (Some n) ds first' → Backward ds last c.after (Some n) es last' → IsDance es first' last' ns (undone u) us
        relink-whole ds es first' last' o w =
            relinks cs ds es first first' last last' ns ls us u d e (subst (λ z. Onward cs first z.before (Some u.0) ds first') (sym same) (subst (λ z. Onward cs first c.before (Some z) ds first') (sym at) o))
            (subst (λ z. Backward ds last z.after (Some u.0) es last') (sym same) (subst (λ z. Backward ds last c.after (Some z) es last') (sym at) w))

  module _ (cs : List (Ptr × Cell X)) (first last : Option Node) (ns : List Node) (n : Node) (ls ms : List (Node × X)) (x : X) (us : List (Unlinked X)) (d : IsDance cs first last (ns ++ n ∷ []) ls us) (e : ls ≡ ms ++ (n, x) ∷ []) (c : Cell X) (h : Has cs n c)
      (ds es : List (Ptr × Cell X)) (first' last' : Option Node) (o : Onward cs first c.before None ds first') (w : Backward ds last None c.before es last') where
    was : Kept (n, x, ms, []) ≡ c
    was = one-cell cs n (Kept (n, x, ms, [])) c (cell-at cs first last (ns ++ n ∷ []) ls us d ms [] n x e) h

    outward : Onward cs first (last_of None ms) None ds first'
    outward = subst (λ z. Onward cs first z.before None ds first') (sym was) o

    inward : Backward ds last None (last_of None ms) es last'
    inward = subst (λ z. Backward ds last None z.before es last') (sym was) w

    pub drop-block : (fs : List (Ptr × Cell X)) × (b : Cell X) × (es ≡ fs ++ (n.place.ptr, b) ∷ [])
    unfolding first_of
    drop-block = last-block ns n es (unlinks cs ds es first first' last last' (ns ++ n ∷ []) ls us (n, x, ms, []) d e outward inward).places

    pub drop-whole : (fs : List (Ptr × Cell X)) (b : Cell X) → es ≡ fs ++ (n.place.ptr, b) ∷ [] → IsDance fs first' last' ns ms us
    drop-whole fs b k = pops cs ds es fs first first' last last' ns n b ls ms x us d e outward inward k

  pub push-here : (cs : List (Ptr × Cell X)) (first last : Option Node) (ns : List Node) (ls : List (Node × X)) (us : List (Unlinked X)) (b : Ptr × Cell X) → IsDance cs first last ns ls us → MatchOption last ⊤ (λ m. IsHere (cs ++ b ∷ []) m)
  push-here cs first last ns ls us b d =
      let old : Rest cs (cs ++ b ∷ []) [] = λ j v ne k. nth-old cs (b ∷ []) j v k in
      subst (λ z. MatchOption z ⊤ (λ m. IsHere (cs ++ b ∷ []) m)) (sym d.ends) (here-last (cs ++ b ∷ []) ls None (run-rest cs (cs ++ b ∷ []) [] old None ls None (AllAvoid-none (numbers ls)) d.runs))

pub none-left : {A : Type 0} (xs ys : List A) (y : A) → length xs ≡ 0 → xs ≡ ys ++ y ∷ [] → ⊥
none-left xs ys y z e = let long = ap length e ∙ length-append ys (y ∷ []) in omega (arith, z, long)

pub has-room : {A B : Type 0} (r : Result A B) (P : Type 0) → is_err r ≡ false → OnOk r P → P
has-room (Ok x) P e p = p
has-room (Err x) P e p = cc

pub when-ok : {A B C : Type 0} (r : Result A B) (x y z : C) → IsOk r → x ≡ (if is_ok r then y else z) → x ≡ y
when-ok (Ok v) x y z k e = e
when-ok (Err v) x y z k e = cc

pub nothing-yet : {X : Type 0} (cs : List (Ptr × Cell X)) (ns : List Node) (ls : List (Node × X)) (us : List (Unlinked X)) → cs ≡ [] → ns ≡ [] → ls ≡ [] → us ≡ [] → IsDance cs None None ns ls us × (0 ≡ length ls)
unfolding Run AllKeep Apart Numbered first_of last_of
nothing-yet cs ns ls us a b c d = rw (a, b, c, d) (record { starts = refl; ends = refl; runs = tt; keeps = tt; apart = tt; counts = omega arith; places = refl; numbered = tt }, refl)

pub unsnoc : {A : Type 0} (xs : List A) → 0 < length xs → (ys : List A) × (y : A) × (xs ≡ ys ++ y ∷ [])
unsnoc [] p = absurd (omega arith)
unsnoc (x ∷ []) p = ([], x, refl)
unsnoc (x ∷ z ∷ xs) p = let r = unsnoc (z ∷ xs) (omega arith) in (x ∷ r.0, r.1, ap (λ l. x ∷ l) r.2)

-- one more of the last items goes
pub one-fewer : {X : Type 0} (now : List (Node × X)) (all : List Node) (ls ms : List (Node × X)) (ns : List Node) → now ≡ ls ++ ms → all ≡ ns ++ map (λ l. l.0) ms → 0 < length ms
    → (is : List (Node × X)) × (n : Node) × (x : X) × (now ≡ (ls ++ is) ++ (n, x) ∷ []) × (all ≡ (ns ++ map (λ l. l.0) is) ++ n ∷ []) × (length is + 1 ≡ length ms)
one-fewer now all ls ms ns e f p =
    let r = unsnoc ms p in let is = r.0 in let y = r.1 in (
      is,
      y.0,
      y.1,
      e ∙ ap (λ z. ls ++ z) r.2 ∙ sym (append_assoc ls is (y ∷ [])),
      f ∙ ap (λ z. ns ++ map (λ l. l.0) z) r.2 ∙ ap (λ z. ns ++ z) (map-append (λ l. l.0) is (y ∷ [])) ∙ sym (append_assoc ns (map (λ l. l.0) is) (y.0 ∷ [])),
      omega (arith, ap length r.2, length-append is (y ∷ [])),
    )

pub places-fewer : {X : Type 0} (ns : List Node) (n : Node) (cs ds : List (Ptr × Cell X)) (c : Cell X) → map (λ m. m.place.ptr) (ns ++ n ∷ []) ≡ map (λ z. z.0) cs → cs ≡ ds ++ (n.place.ptr, c) ∷ [] → map (λ m. m.place.ptr) ns ≡ map (λ z. z.0) ds
places-fewer ns n cs ds c p e =
    snoc-init (map (λ m. m.place.ptr) ns) (map (λ z. z.0) ds) n.place.ptr n.place.ptr (sym (map-append (λ m. m.place.ptr) ns (n ∷ [])) ∙ p ∙ ap (map (λ z. z.0)) e ∙ map-append (λ z. z.0) ds ((n.place.ptr, c) ∷ []))

-- ---- where an iterator stands
pub front-is : {X : Type 0} (ls : List (Node × X)) (n : Node) → first_of ls None ≡ Some n → (x : X) × (ms : List (Node × X)) × (ls ≡ (n, x) ∷ ms)
unfolding first_of
front-is [] n e = cc
front-is (l ∷ ls) n e = let at : l.0 ≡ n = cc in (l.1, ls, (λ i. (at i, l.1) ∷ ls))

pub drop-more : {A : Type 0} (k : ℕ) (xs : List A) (y : A) (ys : List A) → drop k xs ≡ y ∷ ys → drop (suc k) xs ≡ ys
drop-more zero [] y ys e = cc
drop-more zero (x ∷ xs) y ys e = cc
drop-more (suc k) [] y ys e = cc
drop-more (suc k) (x ∷ xs) y ys e = drop-more k xs y ys e

pub nothing-first : {X : Type 0} (ls : List (Node × X)) → first_of ls None ≡ None → ls ≡ []
unfolding first_of
nothing-first [] e = refl
nothing-first (l ∷ ls) e = cc

pub same-front : {A : Type 0} (xs ys ms : List A) (y : A) → length ms ≡ 1 → xs ++ ms ≡ ys ++ y ∷ [] → xs ≡ ys
same-front xs ys [] y l e = absurd (omega (arith, l))
same-front xs ys (m ∷ []) y l e = snoc-init xs ys m y e
same-front xs ys (m ∷ k ∷ ms) y l e = absurd (omega (arith, l))

pub then-last : {A : Type 0} (xs ys zs : List A) (y : A) → zs ≡ ys ++ y ∷ [] → ys ≡ xs → zs ≡ xs ++ y ∷ []
then-last xs ys zs y e f = e ∙ ap (λ z. z ++ y ∷ []) f
