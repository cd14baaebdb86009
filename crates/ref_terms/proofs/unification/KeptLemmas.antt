-- What a solution gives to variables that keep some of their positions.
use Rattle.std.proofs.Common.{◌≡◌, ℕ, zero, suc, ◌+◌, ◌≤◌, ◌<◌, Bool, true, false, cond, ◌||◌, not, nat_eq, refl, sym, ap, ap₂, ◌∙◌, subst, List, [], ◌∷◌, map, filter, length, arith, eqb-true, ◌⊎◌, inl, inr}
use Rattle.std.specs.List.{list_any}
use Rattle.ref_terms.specs.terms.Term.{Term, At, Name, Bound}
use Rattle.ref_terms.specs.terms.Index.{sub}
use Rattle.ref_terms.specs.terms.Ready.{ready}
use Rattle.ref_terms.specs.terms.Apply.{apply}
use Rattle.ref_terms.specs.terms.Built.{IsBuilt}
use Rattle.ref_terms.specs.lemmas.ReadyFacts.{ready-name, ready-bound}
use Rattle.ref_terms.specs.lemmas.FillLemmas.{built-apply}
use Rattle.ref_terms.specs.unification.Spine.{apply_all}
use Rattle.ref_terms.specs.unification.Pattern.{SpineName, of_name, of_bound, same_name}
use Rattle.ref_terms.specs.unification.Closing.{close, close_all, up_from, names_below}
use Rattle.ref_terms.specs.unification.Positions.{agreeing, shared, position, positions_of, all_but}
use Rattle.ref_terms.specs.terms.Occurs.{has_name}
use Rattle.ref_terms.specs.lemmas.NameLemmas.{close-apply, nameless-apply, nat_eq_self}
use Rattle.ref_terms.specs.ending.Bounds.{mem, mem-later}
use Rattle.ref_terms.proofs.unification.ValueLemmas.{names, IsNameless, listed, BuiltReady, body, uses, same-used, unused, AllBelow, kept-applied, over, over-built, UsesOnly, over-nameless, kept-over, uses-only, body-applied, nameless-names, nameless-close_all, built-names, built-close_all}

-- a name of a spine as a term
abbrev pub term_of : SpineName → Term
term_of (of_name n) = At (Name n)
term_of (of_bound i) = At (Bound i)

-- a spine as arguments
abbrev pub terms_of : List SpineName → List Term
terms_of [] = []
terms_of (k ∷ ks) = term_of k ∷ terms_of ks

pub length-terms : (ks : List SpineName) → length (terms_of ks) ≡ length ks
length-terms [] = refl
length-terms (k ∷ ks) = ap suc (length-terms ks)

spine_name-ready : (k : SpineName) → IsBuilt (term_of k) × (ready (term_of k) ≡ true)
spine_name-ready (of_name n) = (tt, ready-name n)
spine_name-ready (of_bound n) = (tt, ready-bound n)

pub spine-ready : (ks : List SpineName) → BuiltReady (terms_of ks)
spine-ready [] = tt
spine-ready (k ∷ ks) = (spine_name-ready k, spine-ready ks)

eq-from : (a b : ℕ) → a ≡ b → nat_eq a b ≡ true
eq-from a b e = subst (λ z. nat_eq a z ≡ true) e (nat_eq_self a)

spine_name-same : (a b : SpineName) → term_of a ≡ term_of b → same_name a b ≡ true
spine_name-same (of_name a) (of_name b) e = let z : At (Name a) ≡ At (Name b) = e in let d : a ≡ b = cc in eq-from a b d
spine_name-same (of_bound a) (of_bound b) e = let z : At (Bound a) ≡ At (Bound b) = e in let d : a ≡ b = cc in eq-from a b d
spine_name-same (of_name a) (of_bound b) e = absurd (let z : At (Name a) ≡ At (Bound b) = e in cc)
spine_name-same (of_bound a) (of_name b) e = absurd (let z : At (Bound a) ≡ At (Name b) = e in cc)

same-spine_name : (a b : SpineName) → same_name a b ≡ true → term_of a ≡ term_of b
same-spine_name (of_name a) (of_name b) e = ap (λ z. At (Name z)) (eqb-true _ _ e)
same-spine_name (of_bound a) (of_bound b) e = ap (λ z. At (Bound z)) (eqb-true _ _ e)
same-spine_name (of_name a) (of_bound b) e = absurd (let z : false ≡ true = e in cc)
same-spine_name (of_bound a) (of_name b) e = absurd (let z : false ≡ true = e in cc)

-- one variable on both sides
agree-mem : (i j : ℕ) (xs ys : List SpineName) → j < length xs → j < length ys → listed (terms_of xs) j ≡ listed (terms_of ys) j → mem (i + j) (agreeing i xs ys) ≡ true
agree-mem i j [] ys l k e = absurd (omega arith)
agree-mem i j (a ∷ xs) [] l k e = absurd (omega arith)
agree-mem i zero (a ∷ xs) (b ∷ ys) l k e = rw (spine_name-same a b e) (let z : i + 0 ≡ i = omega arith in ap (λ n. nat_eq n i || mem n (agreeing (suc i) xs ys)) z ∙ ap (λ r. r || mem i (agreeing (suc i) xs ys)) (nat_eq_self i))
agree-mem i (suc j) (a ∷ xs) (b ∷ ys) l k e = go (subst (λ n. mem n (agreeing (suc i) xs ys) ≡ true) (let z : suc i + j ≡ i + suc j = omega arith in z) (agree-mem (suc i) j xs ys (omega arith) (omega arith) e)) (same_name a b)
  where
    go : mem (i + suc j) (agreeing (suc i) xs ys) ≡ true → (r : Bool) → mem (i + suc j) (cond r (i ∷ agreeing (suc i) xs ys) (agreeing (suc i) xs ys)) ≡ true
    go h true = mem-later (i + suc j) i (agreeing (suc i) xs ys) h
    go h false = h

pub same-uses : (n : ℕ) (xs ys : List SpineName) → length xs ≡ n → length ys ≡ n → (w : Term) → IsNameless w → apply_all w (terms_of xs) ≡ apply_all w (terms_of ys) → UsesOnly n (agreeing 0 xs ys) w
same-uses n xs ys a b w f e = uses-only n (agreeing 0 xs ys) w f (λ j l u. subst (λ i. mem i (agreeing 0 xs ys) ≡ true) (let z : 0 + j ≡ j = omega arith in z)
    (agree-mem 0 j xs ys (omega arith) (omega arith)
    (same-used (listed (terms_of xs)) (listed (terms_of ys)) (body n w) j
    (body-applied n (terms_of xs) (length-terms xs ∙ a) (spine-ready xs) w ∙ e ∙ sym (body-applied n (terms_of ys) (length-terms ys ∙ b) (spine-ready ys) w)) u)))

below-more : (n m : ℕ) → n ≤ m → (ks : List ℕ) → AllBelow n ks → AllBelow m ks
below-more n m l [] h = tt
below-more n m l (k ∷ ks) h = (let x : k < n = h.0 in omega arith, below-more n m l ks h.1)

pub agree-below : (i : ℕ) (xs ys : List SpineName) → AllBelow (i + length xs) (agreeing i xs ys)
agree-below i [] ys = tt
agree-below i (a ∷ xs) [] = tt
agree-below i (a ∷ xs) (b ∷ ys) = go (subst (λ n. AllBelow n (agreeing (suc i) xs ys)) (let z : suc i + length xs ≡ i + suc (length xs) = omega arith in z) (agree-below (suc i) xs ys)) (same_name a b)
  where
    go : AllBelow (i + suc (length xs)) (agreeing (suc i) xs ys) → (r : Bool) → AllBelow (i + suc (length xs)) (cond r (i ∷ agreeing (suc i) xs ys) (agreeing (suc i) xs ys))
    go h true = (omega arith, h)
    go h false = h

agree-map : (f g : ℕ → Term) (i : ℕ) (xs ys : List SpineName) → ((j : ℕ) → f (i + j) ≡ listed (terms_of xs) j) → ((j : ℕ) → g (i + j) ≡ listed (terms_of ys) j) → map f (agreeing i xs ys) ≡ map g (agreeing i xs ys)
agree-map f g i [] ys h k = refl
agree-map f g i (a ∷ xs) [] h k = refl
agree-map f g i (a ∷ xs) (b ∷ ys) h k = go (agree-map f g (suc i) xs ys (λ j. let z : suc i + j ≡ i + suc j = omega arith in ap f z ∙ h (suc j)) (λ j. let z : suc i + j ≡ i + suc j = omega arith in ap g z ∙ k (suc j))) (same_name a b) refl
  where
    go : map f (agreeing (suc i) xs ys) ≡ map g (agreeing (suc i) xs ys) → (r : Bool) → same_name a b ≡ r → map f (cond r (i ∷ agreeing (suc i) xs ys) (agreeing (suc i) xs ys)) ≡ map g (cond r (i ∷ agreeing (suc i) xs ys) (agreeing (suc i) xs ys))
    go e true d = let z : i ≡ i + 0 = omega arith in ap₂ (λ (y : Term) (zs : List Term). y ∷ zs) (ap f z ∙ h zero ∙ same-spine_name a b d ∙ sym (k zero) ∙ ap g (sym z)) e
    go e false d = e

-- over n names, a value applied to those at the kept positions
abbrev pub kept_value : ℕ → List ℕ → Term → Term
kept_value n ks w = close_all (names_below n) (apply_all w (names ks))

pub same-solved : (n : ℕ) (xs ys : List SpineName) → length xs ≡ n → length ys ≡ n → (w : Term) → IsBuilt w → IsNameless w
    → apply_all (kept_value n (agreeing 0 xs ys) w) (terms_of xs) ≡ apply_all (kept_value n (agreeing 0 xs ys) w) (terms_of ys)
same-solved n xs ys a b w c f =
    let h : AllBelow n (agreeing 0 xs ys) = subst (λ m. AllBelow m (agreeing 0 xs ys)) (let z : 0 + length xs ≡ n = omega arith in z) (agree-below 0 xs ys) in
    kept-applied n (agreeing 0 xs ys) h w c f (terms_of xs) (length-terms xs ∙ a) (spine-ready xs)
    ∙ ap (apply_all w) (agree-map (listed (terms_of xs)) (listed (terms_of ys)) 0 xs ys (λ j. let z : 0 + j ≡ j = omega arith in ap (listed (terms_of xs)) z) (λ j. let z : 0 + j ≡ j = omega arith in ap (listed (terms_of ys)) z))
    ∙ sym (kept-applied n (agreeing 0 xs ys) h w c f (terms_of ys) (length-terms ys ∙ b) (spine-ready ys))

-- two variables
abbrev pub as_spine : List ℕ → List SpineName
as_spine ns = map (λ n. of_name n) ns

pub terms-spine : (ns : List ℕ) → terms_of (as_spine ns) ≡ names ns
terms-spine [] = refl
terms-spine (n ∷ ns) = ap (λ (xs : List Term). At (Name n) ∷ xs) (terms-spine ns)

pub length-spine : (ns : List ℕ) → length (as_spine ns) ≡ length ns
length-spine [] = refl
length-spine (n ∷ ns) = ap suc (length-spine ns)

length-names : (ns : List ℕ) → length (names ns) ≡ length ns
length-names [] = refl
length-names (n ∷ ns) = ap suc (length-names ns)

pub names-ready : (ns : List ℕ) → BuiltReady (names ns)
names-ready [] = tt
names-ready (n ∷ ns) = ((tt, ready-name n), names-ready ns)

pub any-mem : (n : ℕ) (ms : List ℕ) → list_any (same_name (of_name n)) (as_spine ms) ≡ mem n ms
any-mem n [] = refl
any-mem n (m ∷ ms) = ap (λ r. nat_eq n m || r) (any-mem n ms)

-- numbers, each once
abbrev pub Distinct : List ℕ → Type 0
Distinct [] = Unit {0}
Distinct (n ∷ ns) = (mem n ns ≡ false) × Distinct ns

mem-head : (x n : ℕ) (ns : List ℕ) → mem n ns ≡ false → mem x ns ≡ true → nat_eq x n ≡ false
mem-head x n ns f t = go (nat_eq x n) refl
  where
    go : (r : Bool) → nat_eq x n ≡ r → r ≡ false
    go true e = let same : x ≡ n = eqb-true _ _ e in let k : mem n ns ≡ true = subst (λ z. mem z ns ≡ true) same t in absurd (let z : true ≡ false = sym k ∙ f in cc)
    go false e = refl

-- a value is read off again from its result at distinct names
pub read-off : (ns : List ℕ) → Distinct ns → (w : Term) → IsBuilt w → ((x : ℕ) → mem x ns ≡ true → has_name x w ≡ false) → close_all ns (apply_all w (names ns)) ≡ w
read-off [] d w b f = refl
read-off (n ∷ ns) d w b f = ap (close n) (read-off ns d.1 (apply w (At (Name n))) (built-apply w (At (Name n)) b tt) (λ x m. nameless-apply x w (At (Name n)) (f x (mem-later x n ns m)) (mem-head x n ns d.0 m))) ∙ close-apply n w b (f n (ap (λ r. r || mem n ns) (nat_eq_self n)))

shared-case : (i j : ℕ) (ns ms : List ℕ) → j < length ns → (mem (i + j) (shared i (as_spine ns) (as_spine ms)) ≡ true) ⊎ ((a : ℕ) × (listed (names ns) j ≡ At (Name a)) × (mem a ms ≡ false))
shared-case i j [] ms l = absurd (omega arith)
shared-case i zero (n ∷ ns) ms l = rw (any-mem n ms) (go (mem n ms) refl)
  where
    go : (r : Bool) → mem n ms ≡ r → (mem (i + 0) (cond r (i ∷ shared (suc i) (as_spine ns) (as_spine ms)) (shared (suc i) (as_spine ns) (as_spine ms))) ≡ true) ⊎ ((a : ℕ) × (At (Name n) ≡ At (Name a)) × (mem a ms ≡ false))
    go true e = inl (let z : i + 0 ≡ i = omega arith in ap (λ k. nat_eq k i || mem k (shared (suc i) (as_spine ns) (as_spine ms))) z ∙ ap (λ r. r || mem i (shared (suc i) (as_spine ns) (as_spine ms))) (nat_eq_self i))
    go false e = inr (n, refl, e)
shared-case i (suc j) (n ∷ ns) ms l = go (shared-case (suc i) j ns ms (omega arith)) (list_any (same_name (of_name n)) (as_spine ms))
  where
    go : (mem (suc i + j) (shared (suc i) (as_spine ns) (as_spine ms)) ≡ true) ⊎ ((a : ℕ) × (listed (names ns) j ≡ At (Name a)) × (mem a ms ≡ false)) → (r : Bool)
        → (mem (i + suc j) (cond r (i ∷ shared (suc i) (as_spine ns) (as_spine ms)) (shared (suc i) (as_spine ns) (as_spine ms))) ≡ true) ⊎ ((a : ℕ) × (listed (names ns) j ≡ At (Name a)) × (mem a ms ≡ false))
    go (inl h) true = inl (mem-later (i + suc j) i (shared (suc i) (as_spine ns) (as_spine ms)) (subst (λ k. mem k (shared (suc i) (as_spine ns) (as_spine ms)) ≡ true) (let z : suc i + j ≡ i + suc j = omega arith in z) h))
    go (inl h) false = inl (subst (λ k. mem k (shared (suc i) (as_spine ns) (as_spine ms)) ≡ true) (let z : suc i + j ≡ i + suc j = omega arith in z) h)
    go (inr h) r = inr h

pub shared-uses : (n : ℕ) (ns ms : List ℕ) → length ns ≡ n → (w z : Term) → IsNameless w → IsNameless z → apply_all w (names ns) ≡ apply_all z (names ms) → UsesOnly n (shared 0 (as_spine ns) (as_spine ms)) w
shared-uses n ns ms a w z f g e = uses-only n (shared 0 (as_spine ns) (as_spine ms)) w f (λ j l u. go j u (shared-case 0 j ns ms (omega arith)))
  where
    go : (j : ℕ) → uses j (body n w) ≡ true → (mem (0 + j) (shared 0 (as_spine ns) (as_spine ms)) ≡ true) ⊎ ((a : ℕ) × (listed (names ns) j ≡ At (Name a)) × (mem a ms ≡ false)) → mem j (shared 0 (as_spine ns) (as_spine ms)) ≡ true
    go j u (inl h) = subst (λ i. mem i (shared 0 (as_spine ns) (as_spine ms)) ≡ true) (let y : 0 + j ≡ j = omega arith in y) h
    go j u (inr (x, q, m)) =
        let k : has_name x (sub (listed (names ns)) (body n w)) ≡ false = subst (λ t. has_name x t ≡ false) (sym (body-applied n (names ns) (length-names ns ∙ a) (names-ready ns) w ∙ e)) (nameless-names x ms z (g x) m) in
        let l : uses j (body n w) ≡ false = unused x (listed (names ns)) j (body n w) q k in
        absurd (let y : true ≡ false = sym u ∙ l in cc)

position-at : (g : ℕ → Term) (i a : ℕ) (ms : List ℕ) → ((j : ℕ) → g (i + j) ≡ listed (names ms) j) → mem a ms ≡ true → g (position i (of_name a) (as_spine ms)) ≡ At (Name a)
position-at g i a [] h m = absurd (let z : false ≡ true = m in cc)
position-at g i a (b ∷ ms) h m = go (nat_eq a b) refl m (λ q. position-at g (suc i) a ms (λ j. let z : suc i + j ≡ i + suc j = omega arith in ap g z ∙ h (suc j)) q)
  where
    go : (r : Bool) → nat_eq a b ≡ r → (r || mem a ms) ≡ true → (mem a ms ≡ true → g (position (suc i) (of_name a) (as_spine ms)) ≡ At (Name a)) → g (cond r i (position (suc i) (of_name a) (as_spine ms))) ≡ At (Name a)
    go true e q k = let z : i ≡ i + 0 = omega arith in ap g z ∙ h zero ∙ ap (λ y. At (Name y)) (sym (eqb-true _ _ e))
    go false e q k = k q

position-below : (i a : ℕ) (ms : List ℕ) → mem a ms ≡ true → position i (of_name a) (as_spine ms) < i + length ms
position-below i a [] m = absurd (let z : false ≡ true = m in cc)
position-below i a (b ∷ ms) m = go (nat_eq a b) m (λ q. position-below (suc i) a ms q)
  where
    go : (r : Bool) → (r || mem a ms) ≡ true → (mem a ms ≡ true → position (suc i) (of_name a) (as_spine ms) < suc i + length ms) → cond r i (position (suc i) (of_name a) (as_spine ms)) < i + suc (length ms)
    go true q k = omega arith
    go false q k = let x : position (suc i) (of_name a) (as_spine ms) < suc i + length ms = k q in omega arith

shared-map : (f : ℕ → Term) (i : ℕ) (ns ms : List ℕ) → ((j : ℕ) → f (i + j) ≡ listed (names ns) j) → map f (shared i (as_spine ns) (as_spine ms)) ≡ map (listed (names ms)) (positions_of i (as_spine ns) (as_spine ms))
shared-map f i [] ms h = refl
shared-map f i (n ∷ ns) ms h = go (shared-map f (suc i) ns ms (λ j. let z : suc i + j ≡ i + suc j = omega arith in ap f z ∙ h (suc j))) (list_any (same_name (of_name n)) (as_spine ms)) refl
  where
    go : map f (shared (suc i) (as_spine ns) (as_spine ms)) ≡ map (listed (names ms)) (positions_of (suc i) (as_spine ns) (as_spine ms)) → (r : Bool) → list_any (same_name (of_name n)) (as_spine ms) ≡ r
        → map f (cond r (i ∷ shared (suc i) (as_spine ns) (as_spine ms)) (shared (suc i) (as_spine ns) (as_spine ms))) ≡ map (listed (names ms)) (cond r (position 0 (of_name n) (as_spine ms) ∷ positions_of (suc i) (as_spine ns) (as_spine ms)) (positions_of (suc i) (as_spine ns) (as_spine ms)))
    go e true d = let z : i ≡ i + 0 = omega arith in ap₂ (λ (y : Term) (zs : List Term). y ∷ zs) (ap f z ∙ h zero ∙ sym (position-at (listed (names ms)) 0 n ms (λ j. let y : 0 + j ≡ j = omega arith in ap (listed (names ms)) y) (sym (any-mem n ms) ∙ d))) e
    go e false d = e

pub shared-below : (i : ℕ) (xs ys : List SpineName) → AllBelow (i + length xs) (shared i xs ys)
shared-below i [] ys = tt
shared-below i (a ∷ xs) ys = go (subst (λ n. AllBelow n (shared (suc i) xs ys)) (let z : suc i + length xs ≡ i + suc (length xs) = omega arith in z) (shared-below (suc i) xs ys)) (list_any (same_name a) ys)
  where
    go : AllBelow (i + suc (length xs)) (shared (suc i) xs ys) → (r : Bool) → AllBelow (i + suc (length xs)) (cond r (i ∷ shared (suc i) xs ys) (shared (suc i) xs ys))
    go h true = (omega arith, h)
    go h false = h

pub positions-below : (i : ℕ) (ns ms : List ℕ) → AllBelow (length ms) (positions_of i (as_spine ns) (as_spine ms))
positions-below i [] ms = tt
positions-below i (n ∷ ns) ms = go (positions-below (suc i) ns ms) (list_any (same_name (of_name n)) (as_spine ms)) refl
  where
    go : AllBelow (length ms) (positions_of (suc i) (as_spine ns) (as_spine ms)) → (r : Bool) → list_any (same_name (of_name n)) (as_spine ms) ≡ r → AllBelow (length ms) (cond r (position 0 (of_name n) (as_spine ms) ∷ positions_of (suc i) (as_spine ns) (as_spine ms)) (positions_of (suc i) (as_spine ns) (as_spine ms)))
    go h true d = (let x : position 0 (of_name n) (as_spine ms) < 0 + length ms = position-below 0 n ms (sym (any-mem n ms) ∙ d) in omega arith, h)
    go h false d = h

pub shared-solved : (ns ms : List ℕ) (w : Term) → IsBuilt w → IsNameless w
    → apply_all (kept_value (length ns) (shared 0 (as_spine ns) (as_spine ms)) w) (names ns) ≡ apply_all (kept_value (length ms) (positions_of 0 (as_spine ns) (as_spine ms)) w) (names ms)
shared-solved ns ms w c f =
    let h : AllBelow (length ns) (shared 0 (as_spine ns) (as_spine ms)) = subst (λ m. AllBelow m (shared 0 (as_spine ns) (as_spine ms))) (let z : 0 + length (as_spine ns) ≡ length ns = (let y : length (as_spine ns) ≡ length ns = length-spine ns in omega arith) in z) (shared-below 0 (as_spine ns) (as_spine ms)) in
    kept-applied (length ns) (shared 0 (as_spine ns) (as_spine ms)) h w c f (names ns) (length-names ns) (names-ready ns)
    ∙ ap (apply_all w) (shared-map (listed (names ns)) 0 ns ms (λ j. let z : 0 + j ≡ j = omega arith in ap (listed (names ns)) z))
    ∙ sym (kept-applied (length ms) (positions_of 0 (as_spine ns) (as_spine ms)) (positions-below 0 ns ms) w c f (names ms) (length-names ms) (names-ready ms))

mem-up : (k x n : ℕ) → k ≤ x → x < k + n → mem x (up_from k n) ≡ true
mem-up k x zero l h = absurd (omega arith)
mem-up k x (suc n) l h = go (nat_eq x k) refl (λ q. mem-up (suc k) x n q (omega arith))
  where
    go : (r : Bool) → nat_eq x k ≡ r → (suc k ≤ x → mem x (up_from (suc k) n) ≡ true) → (r || mem x (up_from (suc k) n)) ≡ true
    go true e i = refl
    go false e i = i (let apart : x ≡ k → ⊥ = λ q. absurd (let y : true ≡ false = sym (eq-from x k q) ∙ e in cc) in omega arith)

mem-below : (n x : ℕ) (ks : List ℕ) → AllBelow n ks → mem x ks ≡ true → x < n
mem-below n x [] h m = absurd (let z : false ≡ true = m in cc)
mem-below n x (k ∷ ks) h m = go (nat_eq x k) refl m (λ q. mem-below n x ks h.1 q)
  where
    go : (r : Bool) → nat_eq x k ≡ r → (r || mem x ks) ≡ true → (mem x ks ≡ true → x < n) → x < n
    go true e q i = let same : x ≡ k = eqb-true _ _ e in let l : k < n = h.0 in omega arith
    go false e q i = i q

not-mem : (n x : ℕ) (ks : List ℕ) → AllBelow n ks → mem x (names_below n) ≡ false → mem x ks ≡ false
not-mem n x ks h f = go (mem x ks) refl
  where
    go : (r : Bool) → mem x ks ≡ r → r ≡ false
    go true e = let l : x < n = mem-below n x ks h e in let k : mem x (up_from 0 n) ≡ true = mem-up 0 x n (omega arith) (omega arith) in absurd (let z : true ≡ false = sym k ∙ f in cc)
    go false e = refl

pub kept-nameless : (n : ℕ) (ks : List ℕ) (w : Term) → AllBelow n ks → IsNameless w → IsNameless (kept_value n ks w)
kept-nameless n ks w h f x = nameless-close_all x (names_below n) (apply_all w (names ks)) (λ q. nameless-names x ks w (f x) (not-mem n x ks h q))

pub kept-built : (n : ℕ) (ks : List ℕ) (w : Term) → IsBuilt w → IsBuilt (kept_value n ks w)
kept-built n ks w b = built-close_all (names_below n) (apply_all w (names ks)) (built-names ks w b)

-- the second variable's value, over the same
pub second-over : (ns ms : List ℕ) → Distinct ms → (w z : Term) → IsBuilt w → IsBuilt z → IsNameless w → IsNameless z → apply_all w (names ns) ≡ apply_all z (names ms)
    → kept_value (length ms) (positions_of 0 (as_spine ns) (as_spine ms)) (over (length ns) (shared 0 (as_spine ns) (as_spine ms)) w) ≡ z
second-over ns ms d w z bw bz fw fz e =
    let v : Term = over (length ns) (shared 0 (as_spine ns) (as_spine ms)) w in
    let bv : IsBuilt v = over-built (length ns) (shared 0 (as_spine ns) (as_spine ms)) w bw in
    let fv : IsNameless v = over-nameless (length ns) (shared 0 (as_spine ns) (as_spine ms)) w (shared-uses (length ns) ns ms refl w z fw fz e) in
    let bk : IsBuilt (kept_value (length ms) (positions_of 0 (as_spine ns) (as_spine ms)) v) = kept-built (length ms) (positions_of 0 (as_spine ns) (as_spine ms)) v bv in
    let fk : IsNameless (kept_value (length ms) (positions_of 0 (as_spine ns) (as_spine ms)) v) = kept-nameless (length ms) (positions_of 0 (as_spine ns) (as_spine ms)) v (positions-below 0 ns ms) fv in
    sym (read-off ms d (kept_value (length ms) (positions_of 0 (as_spine ns) (as_spine ms)) v) bk (λ x m. fk x))
    ∙ ap (close_all ms) (sym (shared-solved ns ms v bv fv) ∙ ap (λ t. apply_all t (names ns)) (kept-over (length ns) (shared 0 (as_spine ns) (as_spine ms)) w bw fw) ∙ e)
    ∙ read-off ms d z bz (λ x m. fz x)

-- all positions but one
but-mem : (i j k n : ℕ) → nat_eq i j ≡ false → k ≤ j → j < k + n → mem j (filter (λ z. not (nat_eq i z)) (up_from k n)) ≡ true
but-mem i j k zero e l h = absurd (omega arith)
but-mem i j k (suc n) e l h = go (nat_eq i k) refl (nat_eq j k) refl (λ q. but-mem i j (suc k) n e q (omega arith))
  where
    later : (s : Bool) → nat_eq j k ≡ s → s ≡ false → suc k ≤ j
    later s d f = let apart : j ≡ k → ⊥ = λ q. absurd (let y : true ≡ false = sym (eq-from j k q) ∙ d ∙ f in cc) in omega arith

    go : (r : Bool) → nat_eq i k ≡ r → (s : Bool) → nat_eq j k ≡ s → (suc k ≤ j → mem j (filter (λ z. not (nat_eq i z)) (up_from (suc k) n)) ≡ true) → mem j (cond (not r) (k ∷ filter (λ z. not (nat_eq i z)) (up_from (suc k) n)) (filter (λ z. not (nat_eq i z)) (up_from (suc k) n))) ≡ true
    go true d true f i' = let p : i ≡ k = eqb-true _ _ d in let q : j ≡ k = eqb-true _ _ f in absurd (let y : true ≡ false = sym (eq-from i j (p ∙ sym q)) ∙ e in cc)
    go true d false f i' = i' (later false f refl)
    go false d true f i' = rw f refl
    go false d false f i' = rw f (i' (later false f refl))

pub but-below : (i k n : ℕ) → AllBelow (k + n) (filter (λ z. not (nat_eq i z)) (up_from k n))
but-below i k zero = tt
but-below i k (suc n) = go (subst (λ m. AllBelow m (filter (λ z. not (nat_eq i z)) (up_from (suc k) n))) (let z : suc k + n ≡ k + suc n = omega arith in z) (but-below i (suc k) n)) (nat_eq i k)
  where
    go : AllBelow (k + suc n) (filter (λ z. not (nat_eq i z)) (up_from (suc k) n)) → (r : Bool) → AllBelow (k + suc n) (cond (not r) (k ∷ filter (λ z. not (nat_eq i z)) (up_from (suc k) n)) (filter (λ z. not (nat_eq i z)) (up_from (suc k) n)))
    go h true = h
    go h false = (omega arith, h)

-- a value whose body doesn't use one index
pub but-uses : (i n : ℕ) (w : Term) → IsNameless w → uses i (body n w) ≡ false → UsesOnly n (all_but i n) w
but-uses i n w f h = uses-only n (all_but i n) w f (λ j l u. but-mem i j 0 n (other j u (nat_eq i j) refl) (omega arith) (omega arith))
  where
    other : (j : ℕ) → uses j (body n w) ≡ true → (r : Bool) → nat_eq i j ≡ r → r ≡ false
    other j u true e = let same : i ≡ j = eqb-true _ _ e in let k : uses j (body n w) ≡ false = subst (λ z. uses z (body n w) ≡ false) same h in absurd (let y : true ≡ false = sym u ∙ k in cc)
    other j u false e = refl
