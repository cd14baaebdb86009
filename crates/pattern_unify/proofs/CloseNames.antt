-- Closing over names, renamed or not, makes the same term.
use Rattle.std.proofs.Common.{◌≡◌, ℕ, zero, suc, ◌<◌, ◌+◌, ◌-◌, ◌||◌, List, [], ◌∷◌, length, cond, nat_eq, Bool, true, false, slice_index, refl, sym, ap, ap₂, ◌∙◌, arith, eqb-true, eq-eqb}
use Rattle.std.specs.List.{list_any}
use Rattle.ref_terms.specs.terms.Term.{Term, Head, At, Lam, App, Con, Int, Str, Name, Bound, Var}
use Rattle.ref_terms.specs.terms.Index.{shift}
use Rattle.ref_terms.specs.terms.Eta.{lam}
use Rattle.ref_terms.specs.terms.Apply.{apply, below, fill}
use Rattle.ref_terms.specs.terms.Built.{IsBuilt}
use Rattle.ref_terms.specs.terms.Occurs.{is_name, has_name}
use Rattle.ref_terms.specs.laws.TermLaws.{AllBuilt, KeepsReady}
use Rattle.ref_terms.specs.lemmas.FillLemmas.{built-fill, below-built}
use Rattle.ref_terms.specs.lemmas.ComposeLemmas.{fill-lam, fill-fill, below_keeps}
use Rattle.ref_terms.specs.lemmas.NameLemmas.{closing_keeps, closing_built, nat_eq_self}
use Rattle.ref_terms.specs.lemmas.OccursLemmas.{fill_at}
use Rattle.ref_terms.specs.lemmas.ReadyFacts.{ready-fill}
use Rattle.ref_terms.specs.unification.Closing.{closing, close, close_all, up_from, names_below}
use Rattle.beta_fragment.specs.Names.{AreDistinct}
use Rattle.pattern_unify.specs.inside.Binding.{AreFirst, HasPositions, IsNameless}
use Rattle.pattern_unify.specs.Bound.{NamesAmong}
use Rattle.pattern_unify.proofs.OccursLemmas.{or_left, or_right}

-- so many abstractions
abbrev lams : ℕ → Term → Term
lams zero t = t
lams (suc m) t = lams m (lam t)

-- heads under so many abstractions
abbrev belows : ℕ → (Head → Term) → Head → Term
belows zero r = r
belows (suc m) r = below (belows m r)

lam-lams : (m : ℕ) (t : Term) → lam (lams m t) ≡ lams m (lam t)
lam-lams zero t = refl
lam-lams (suc m) t = lam-lams m (lam t)

belows-built : (m : ℕ) (r : Head → Term) → AllBuilt r → AllBuilt (belows m r)
belows-built zero r w = w
belows-built (suc m) r w = below-built (belows m r) (belows-built m r w)

belows-keep : (m : ℕ) (r : Head → Term) → KeepsReady r → KeepsReady (belows m r)
belows-keep zero r w = w
belows-keep (suc m) r w = below_keeps (belows m r) (belows-keep m r w)

fill-lams : (m : ℕ) (r : Head → Term) → AllBuilt r → (t : Term) → fill r (lams m t) ≡ lams m (fill (belows m r) t)
fill-lams zero r w t = refl
fill-lams (suc m) r w t = fill-lams m r w (lam t) ∙ ap (lams m) (fill-lam (belows m r) (belows-built m r w) t)

-- what stands for a head where names are abstracted
abbrev closes : List ℕ → Head → Term
closes [] h = At h
closes (n ∷ ns) h = fill (belows (length ns) (closing n)) (closes ns h)

closes-built : (ns : List ℕ) → AllBuilt (closes ns)
closes-built [] h = tt
closes-built (n ∷ ns) h = built-fill (belows (length ns) (closing n)) (belows-built (length ns) (closing n) (closing_built n)) (closes ns h)

closes-keep : (ns : List ℕ) → KeepsReady (closes ns)
closes-keep [] h e = e
closes-keep (n ∷ ns) h e = ready-fill (belows (length ns) (closing n)) (belows-keep (length ns) (closing n) (closing_keeps n)) (closes ns h) (closes-keep ns h e)

-- all names at once
close-lams : (ns : List ℕ) (t : Term) → IsBuilt t → close_all ns t ≡ lams (length ns) (fill (closes ns) t)
close-lams [] t w = sym (fill_at t w)
close-lams (n ∷ ns) t w =
    ap (close n) (close-lams ns t w)
    ∙ ap lam (fill-lams (length ns) (closing n) (closing_built n) (fill (closes ns) t))
    ∙ lam-lams (length ns) (fill (belows (length ns) (closing n)) (fill (closes ns) t))
    ∙ ap (λ x. lams (length ns) (lam x)) (fill-fill (belows (length ns) (closing n)) (closes ns) (belows-built (length ns) (closing n) (closing_built n)) (belows-keep (length ns) (closing n) (closing_keeps n)) t)

-- what becomes of each head
belows-name : (m : ℕ) (r : Head → Term) (k : ℕ) → r (Name k) ≡ At (Name k) → belows m r (Name k) ≡ At (Name k)
belows-name zero r k e = e
belows-name (suc m) r k e = ap shift (belows-name m r k e)

belows-taken : (m : ℕ) (r : Head → Term) (k : ℕ) → r (Name k) ≡ At (Bound zero) → belows m r (Name k) ≡ At (Bound m)
belows-taken zero r k e = e
belows-taken (suc m) r k e = ap shift (belows-taken m r k e)

belows-low : (m : ℕ) (r : Head → Term) (j : ℕ) → j < m → belows m r (Bound j) ≡ At (Bound j)
belows-low zero r j h = absurd (omega (arith, h))
belows-low (suc m) r zero h = refl
belows-low (suc m) r (suc j) h = ap shift (belows-low m r j (omega (arith, h)))

belows-high : (m : ℕ) (r : Head → Term) (i j : ℕ) → r (Bound i) ≡ At (Bound (suc i)) → j ≡ m + i → belows m r (Bound j) ≡ At (Bound (suc j))
belows-high zero r i j e q = let same : j ≡ i = omega (arith, q) in ap (λ k. r (Bound k)) same ∙ e ∙ ap (λ k. At (Bound (suc k))) (sym same)
belows-high (suc m) r i zero e q = absurd (omega (arith, q))
belows-high (suc m) r i (suc j) e q = ap shift (belows-high m r i j e (omega (arith, q)))

-- a head that closing leaves alone
abbrev IsFixed : Head → Type 0
IsFixed (Name k) = ⊥
IsFixed (Bound i) = ⊥
IsFixed _ = Unit {0}

belows-fixed : (m : ℕ) (r : Head → Term) (h : Head) → IsFixed h → r h ≡ At h → belows m r h ≡ At h
belows-fixed zero r h w e = e
belows-fixed (suc m) r (Con c) w e = ap shift (belows-fixed m r (Con c) w e)
belows-fixed (suc m) r (Int c) w e = ap shift (belows-fixed m r (Int c) w e)
belows-fixed (suc m) r (Str c) w e = ap shift (belows-fixed m r (Str c) w e)
belows-fixed (suc m) r (Var c) w e = ap shift (belows-fixed m r (Var c) w e)
belows-fixed (suc m) r (Name c) w e = absurd w
belows-fixed (suc m) r (Bound c) w e = absurd w

closing-fixed : (n : ℕ) (h : Head) → IsFixed h → closing n h ≡ At h
closing-fixed n (Con c) w = refl
closing-fixed n (Int c) w = refl
closing-fixed n (Str c) w = refl
closing-fixed n (Var c) w = refl
closing-fixed n (Name c) w = absurd w
closing-fixed n (Bound c) w = absurd w

closes-fixed : (ns : List ℕ) (h : Head) → IsFixed h → closes ns h ≡ At h
closes-fixed [] h w = refl
closes-fixed (n ∷ ns) h w = ap (fill (belows (length ns) (closing n))) (closes-fixed ns h w) ∙ belows-fixed (length ns) (closing n) h w (closing-fixed n h w)

closes-bound : (ns : List ℕ) (i j : ℕ) → j ≡ length ns + i → closes ns (Bound i) ≡ At (Bound j)
closes-bound [] i j e = ap (λ k. At (Bound k)) (let same : i ≡ j = omega (arith, e) in same)
closes-bound (n ∷ ns) i zero e = absurd (omega (arith, e))
closes-bound (n ∷ ns) i (suc j) e =
    ap (fill (belows (length ns) (closing n))) (closes-bound ns i j (omega (arith, e)))
    ∙ belows-high (length ns) (closing n) i j refl (omega (arith, e))

closes-absent : (ns : List ℕ) (k : ℕ) → ((i : ℕ) → i < length ns → slice_index ns i ≡ k → ⊥) → closes ns (Name k) ≡ At (Name k)
closes-absent [] k none = refl
closes-absent (n ∷ ns) k none =
    ap (fill (belows (length ns) (closing n))) (closes-absent ns k (λ i h. none (suc i) (omega (arith, h))))
    ∙ belows-name (length ns) (closing n) k (other (nat_eq n k) refl)
  where
    other : (b : Bool) → nat_eq n k ≡ b → cond b (At (Bound zero)) (At (Name k)) ≡ At (Name k)
    other true q = absurd (none 0 (omega arith) (eqb-true n k q))
    other false q = refl

rest-distinct : (n : ℕ) (ns : List ℕ) → AreDistinct (n ∷ ns) → AreDistinct ns
rest-distinct n ns d i j hi hj e = let same : suc i ≡ suc j = d (suc i) (suc j) (omega (arith, hi)) (omega (arith, hj)) e in omega (arith, same)

closes-at : (ns : List ℕ) (i k j : ℕ) → AreDistinct ns → i < length ns → slice_index ns i ≡ k → j + suc i ≡ length ns → closes ns (Name k) ≡ At (Bound j)
closes-at [] i k j d h e q = absurd (omega (arith, h))
closes-at (n ∷ ns) zero k j d h e q =
    ap (fill (belows (length ns) (closing n))) (closes-absent ns k (λ i l p. absurd (let same : zero ≡ suc i = d zero (suc i) (omega arith) (omega (arith, l)) (e ∙ sym p) in omega (arith, same))))
    ∙ belows-taken (length ns) (closing n) k (ap (λ b. cond b (At (Bound zero)) (At (Name k))) (eq-eqb n k e))
    ∙ ap (λ m. At (Bound m)) (let same : length ns ≡ j = omega (arith, q) in same)
closes-at (n ∷ ns) (suc i) k j d h e q =
    ap (fill (belows (length ns) (closing n))) (closes-at ns i k j (rest-distinct n ns d) (omega (arith, h)) e (omega (arith, q)))
    ∙ belows-low (length ns) (closing n) j (omega (arith, q, h))

-- all heads, where only some names may stand
abbrev Allowed : (ℕ → Type 0) → Head → Type 0
Allowed p (Name k) = p k
Allowed p _ = Unit {0}

below-allowed : (p : ℕ → Type 0) (r q : Head → Term) → ((h : Head) → Allowed p h → r h ≡ q h) → (h : Head) → Allowed p h → below r h ≡ below q h
below-allowed p r q e (Bound zero) w = refl
below-allowed p r q e (Bound (suc n)) w = ap shift (e (Bound n) tt)
below-allowed p r q e (Con c) w = ap shift (e (Con c) w)
below-allowed p r q e (Int c) w = ap shift (e (Int c) w)
below-allowed p r q e (Str c) w = ap shift (e (Str c) w)
below-allowed p r q e (Name c) w = ap shift (e (Name c) w)
below-allowed p r q e (Var c) w = ap shift (e (Var c) w)

head-allowed : (p : ℕ → Type 0) (h : Head) → ((k : ℕ) → is_name k h ≡ true → p k) → Allowed p h
head-allowed p (Name k) w = w k (nat_eq_self k)
head-allowed p (Bound i) w = tt
head-allowed p (Con c) w = tt
head-allowed p (Int c) w = tt
head-allowed p (Str c) w = tt
head-allowed p (Var c) w = tt

fill-allowed : (p : ℕ → Type 0) (r q : Head → Term) → ((h : Head) → Allowed p h → r h ≡ q h) → (t : Term) → ((k : ℕ) → has_name k t ≡ true → p k) → fill r t ≡ fill q t
fill-allowed p r q e (Lam b) w = ap lam (fill-allowed p (below r) (below q) (below-allowed p r q e) b w)
fill-allowed p r q e (At h) w = e h (head-allowed p h w)
fill-allowed p r q e (App f a) w =
    ap₂ apply (fill-allowed p r q e f (λ k h. w k (or_left _ _ h))) (fill-allowed p r q e a (λ k h. w k (or_right _ _ h)))

-- each name for the one that a table has for it
abbrev pub rename : List ℕ → Head → Term
rename table (Name k) = At (Name (slice_index table k))
rename table h = At h

pub rename-built : (table : List ℕ) → AllBuilt (rename table)
rename-built table (Con c) = tt
rename-built table _ = tt

-- a term without names stays
same-otherwise : (table : List ℕ) (h : Head) → Allowed (λ k. ⊥) h → rename table h ≡ At h
same-otherwise table (Name k) w = absurd w
same-otherwise table (Bound i) w = refl
same-otherwise table (Con c) w = refl
same-otherwise table (Int c) w = refl
same-otherwise table (Str c) w = refl
same-otherwise table (Var v) w = refl

pub rename-nameless : (table : List ℕ) (t : Term) → IsBuilt t → IsNameless t → fill (rename table) t ≡ t
rename-nameless table t w none = fill-allowed (λ k. ⊥) (rename table) (λ h. At h) (same-otherwise table) t (λ k h. let z : true ≡ false = sym h ∙ none k in cc) ∙ fill_at t w

-- a name is at a position of a list
abbrev IsAt : List ℕ → ℕ → Type 0
IsAt ns k = (i : ℕ) × (i < length ns) × (slice_index ns i ≡ k)

found : (k : ℕ) (ns : List ℕ) → list_any (nat_eq k) ns ≡ true → IsAt ns k
found k [] e = absurd (let z : false ≡ true = e in cc)
found k (n ∷ ns) e = go (nat_eq k n) refl e (λ q. found k ns q)
  where
    go : (b : Bool) → nat_eq k n ≡ b → (b || list_any (nat_eq k) ns) ≡ true → (list_any (nat_eq k) ns ≡ true → IsAt ns k) → IsAt (n ∷ ns) k
    go true q h later = (0, omega arith, sym (eqb-true k n q))
    go false q h later = let r = later h in let less = r.1 in (suc r.0, omega (arith, less), r.2)

-- the names at the positions of a list, renamed to those at the same positions of another
heads-renamed : (ns ms table : List ℕ) → length ns ≡ length ms → AreDistinct ns → AreDistinct ms → ((i : ℕ) → i < length ns → slice_index table (slice_index ns i) ≡ slice_index ms i) →
    (h : Head) → Allowed (IsAt ns) h → fill (closes ms) (rename table h) ≡ closes ns h
heads-renamed ns ms table long dn dm e (Name k) w =
    let i = w.0 in
    let less : w.0 < length ns = w.1 in
    let at : slice_index ms w.0 ≡ slice_index table k = sym (e w.0 w.1) ∙ ap (slice_index table) w.2 in
    closes-at ms w.0 (slice_index table k) (length ns - suc w.0) dm (omega (arith, less, long)) at (omega (arith, less, long))
    ∙ sym (closes-at ns w.0 k (length ns - suc w.0) dn w.1 w.2 (omega (arith, less)))
heads-renamed ns ms table long dn dm e (Bound i) w = closes-bound ms i (length ns + i) (omega (arith, long)) ∙ sym (closes-bound ns i (length ns + i) refl)
heads-renamed ns ms table long dn dm e (Con c) w = closes-fixed ms (Con c) tt ∙ sym (closes-fixed ns (Con c) tt)
heads-renamed ns ms table long dn dm e (Int c) w = closes-fixed ms (Int c) tt ∙ sym (closes-fixed ns (Int c) tt)
heads-renamed ns ms table long dn dm e (Str c) w = closes-fixed ms (Str c) tt ∙ sym (closes-fixed ns (Str c) tt)
heads-renamed ns ms table long dn dm e (Var c) w = closes-fixed ms (Var c) tt ∙ sym (closes-fixed ns (Var c) tt)

close-renamed : (ns ms table : List ℕ) (u : Term) → length ns ≡ length ms → AreDistinct ns → AreDistinct ms → ((i : ℕ) → i < length ns → slice_index table (slice_index ns i) ≡ slice_index ms i) → NamesAmong ns u → IsBuilt u →
    close_all ms (fill (rename table) u) ≡ close_all ns u
close-renamed ns ms table u long dn dm e among w =
    close-lams ms (fill (rename table) u) (built-fill (rename table) (rename-built table) u)
    ∙ ap (lams (length ms)) (fill-fill (closes ms) (rename table) (closes-built ms) (closes-keep ms) u
    ∙ fill-allowed (IsAt ns) (λ h. fill (closes ms) (rename table h)) (closes ns) (heads-renamed ns ms table long dn dm e) u (λ k h. found k ns (among k h)))
    ∙ ap (λ n. lams n (fill (closes ns) u)) (sym long)
    ∙ sym (close-lams ns u w)

-- the first levels
up_from-length : (k n : ℕ) → length (up_from k n) ≡ n
up_from-length k zero = refl
up_from-length k (suc n) = ap suc (up_from-length (suc k) n)

up_from-index : (k n i : ℕ) → i < n → slice_index (up_from k n) i ≡ k + i
up_from-index k zero i h = absurd (omega (arith, h))
up_from-index k (suc n) zero h = omega arith
up_from-index k (suc n) (suc i) h = let later = up_from-index (suc k) n i (omega (arith, h)) in omega (arith, later)

below-distinct : (n : ℕ) → AreDistinct (names_below n)
below-distinct n i j hi hj e =
    let long = up_from-length 0 n in
    let at = up_from-index 0 n i (omega (arith, hi, long)) in
    let other = up_from-index 0 n j (omega (arith, hj, long)) in
    omega (arith, at, other, e)

-- the names at the positions of a list, renamed to the first levels
pub close-positions : (ns table : List ℕ) (u : Term) → AreDistinct ns → HasPositions ns table → NamesAmong ns u → IsBuilt u → close_all (names_below (length ns)) (fill (rename table) u) ≡ close_all ns u
close-positions ns table u d p among w =
    close-renamed ns (names_below (length ns)) table u (sym (up_from-length 0 (length ns))) d (below-distinct (length ns))
    (λ i h. let here = p i h in let at = up_from-index 0 (length ns) i h in omega (arith, here, at))
    among w

-- names that are the first levels are these
first-from : (k : ℕ) (ns : List ℕ) → ((i : ℕ) → i < length ns → slice_index ns i ≡ k + i) → up_from k (length ns) ≡ ns
first-from k [] e = refl
first-from k (n ∷ ns) e =
    let here = e 0 (omega arith) in
    ap₂ (λ (x : ℕ) (xs : List ℕ). x ∷ xs) (let same : k ≡ n = omega (arith, here) in same)
    (first-from (suc k) ns (λ i h. let later = e (suc i) (omega (arith, h)) in omega (arith, later)))

pub first-names : (ns : List ℕ) → AreFirst ns → names_below (length ns) ≡ ns
first-names ns e = first-from 0 ns (λ i h. let here = e i h in omega (arith, here))
