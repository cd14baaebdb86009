-- A value applied to ready terms: which of them the result uses, and the value read off again.
use Rattle.std.proofs.Common.{◌≡◌, ℕ, zero, suc, ◌+◌, ◌<◌, Bool, true, false, cond, ◌||◌, nat_eq, refl, sym, ap, ap₂, ◌∙◌, subst, List, [], ◌∷◌, map, length, arith, eqb-true, Some, ◌⊎◌, inl, inr}
use mathlib.Core.Path.{fun_ext}
use Rattle.ref_terms.specs.terms.Term.{Term, Lam, At, App, Head, Con, Int, Str, Name, Bound, Var}
use Rattle.ref_terms.specs.terms.Index.{ren, next, shift, under, sub, sub_head, first}
use Rattle.ref_terms.specs.terms.Eta.{lower, lam}
use Rattle.ref_terms.specs.terms.Ready.{ready}
use Rattle.ref_terms.specs.terms.Apply.{apply, below, fill}
use Rattle.ref_terms.specs.terms.Built.{IsBuilt}
use Rattle.ref_terms.specs.lemmas.TermLemmas.{sub-ren, sub_id}
use Rattle.ref_terms.specs.lemmas.EtaLemmas.{lower-shift}
use Rattle.ref_terms.specs.lemmas.ReadyFacts.{ready-name, ready-bound}
use Rattle.ref_terms.specs.lemmas.ApplyLemmas.{AllReady, ready-first, sub-apply}
use Rattle.ref_terms.specs.lemmas.FillLemmas.{below-built, built-fill, built-apply, built-lam, apply-lam}
use Rattle.ref_terms.specs.lemmas.ComposeLemmas.{fill-sub, fill-fill, fill-lam, fill-apply, below_keeps}
use Rattle.ref_terms.specs.lemmas.OccursLemmas.{fill_at}
use Rattle.ref_terms.specs.unification.Spine.{apply_all}
use Rattle.ref_terms.specs.unification.Closing.{closing, close, close_all, up_from, names_below}
use Rattle.ref_terms.specs.terms.Occurs.{is_name, has_name}
use Rattle.ref_terms.specs.lemmas.NameLemmas.{closing_built, has_name-ren, nameless-lam, nameless-fill, nameless-apply, or_left, or_right, or_both, nat_eq_self}
use Rattle.ref_terms.specs.ending.Bounds.{mem}
use Rattle.ref_terms.specs.ending.Rules.{keeping-again}
use Rattle.ref_terms.specs.laws.TermLaws.{KeepsReady, AllBuilt}

-- names as arguments
abbrev pub names : List ℕ → List Term
names ns = map (λ n. At (Name n)) ns

-- a term without names
abbrev pub IsNameless : Term → Type 0
IsNameless t = (x : ℕ) → has_name x t ≡ false

-- the terms in place of the first indices
abbrev pub listed : List Term → ℕ → Term
listed [] i = At (Bound i)
listed (a ∷ xs) zero = a
listed (a ∷ xs) (suc i) = listed xs i

-- arguments that are ready
abbrev pub ReadyList : List Term → Type 0
ReadyList [] = Unit {0}
ReadyList (a ∷ xs) = (ready a ≡ true) × ReadyList xs

listed-ready : (xs : List Term) → ReadyList xs → AllReady (listed xs)
listed-ready [] h i = ready-bound i
listed-ready (a ∷ xs) h zero = h.0
listed-ready (a ∷ xs) h (suc i) = listed-ready xs h.1 i

-- the index past n more abstractions
abbrev pub beyond : ℕ → ℕ → ℕ
beyond zero i = i
beyond (suc n) i = suc (beyond n i)

listed-beyond : (xs : List Term) (i : ℕ) → listed xs (beyond (length xs) i) ≡ At (Bound i)
listed-beyond [] i = refl
listed-beyond (a ∷ xs) i = listed-beyond xs i

-- so many bound indices as arguments
abbrev pub indices : (ℕ → ℕ) → ℕ → List Term
indices g zero = []
indices g (suc n) = At (Bound (g zero)) ∷ indices (λ i. g (suc i)) n

-- the value applied to n indices
abbrev pub body : ℕ → Term → Term
body n w = apply_all (ren (beyond n) w) (indices (λ i. i) n)

sub-applied : (s : ℕ → Term) → AllReady s → (xs : List Term) (t : Term) → sub s (apply_all t xs) ≡ apply_all (sub s t) (map (sub s) xs)
sub-applied s h [] t = refl
sub-applied s h (a ∷ xs) t = sub-applied s h xs (apply t a) ∙ ap (λ z. apply_all z (map (sub s) xs)) (sub-apply s h t a)

indices-read : (s : ℕ → Term) (g : ℕ → ℕ) (xs : List Term) → ((i : ℕ) → s (g i) ≡ listed xs i) → map (sub s) (indices g (length xs)) ≡ xs
indices-read s g [] h = refl
indices-read s g (a ∷ xs) h = ap₂ (λ (y : Term) (ys : List Term). y ∷ ys) (h zero) (indices-read s (λ i. g (suc i)) xs (λ i. h (suc i)))

-- every application of a value is a replacement in one body, where nothing is contracted
pub applied-body : (xs : List Term) → ReadyList xs → (w : Term) → sub (listed xs) (body (length xs) w) ≡ apply_all w xs
applied-body xs h w =
    sub-applied (listed xs) (listed-ready xs h) (indices (λ i. i) (length xs)) (ren (beyond (length xs)) w)
    ∙ ap₂ apply_all (sub-ren (listed xs) (beyond (length xs)) w ∙ ap (λ s. sub s w) (fun_ext (listed-beyond xs)) ∙ sub_id w) (indices-read (listed xs) (λ i. i) xs (λ i. refl))

-- which indices stand in a term
abbrev pub is_index : ℕ → Head → Bool
is_index i (Bound j) = nat_eq i j
is_index i _ = false

-- whether the index is free in a term
abbrev pub uses : ℕ → Term → Bool
uses i (Lam b) = uses (suc i) b
uses i (At h) = is_index i h
uses i (App f a) = uses i f || uses i a

-- equal results agree at each index in use
pub same-used : (s r : ℕ → Term) (t : Term) (i : ℕ) → sub s t ≡ sub r t → uses i t ≡ true → s i ≡ r i
same-used s r (Lam b) i e u =
    let k : sub (under s) b ≡ sub (under r) b = cc in
    let d : shift (s i) ≡ shift (r i) = same-used (under s) (under r) b (suc i) k u in
    let z : Some (s i) ≡ Some (r i) = sym (lower-shift (s i)) ∙ ap lower d ∙ lower-shift (r i) in
    cc
same-used s r (At (Bound j)) i e u = let same : i ≡ j = eqb-true _ _ u in ap s same ∙ e ∙ sym (ap r same)
same-used s r (At (Con c)) i e u = absurd (let z : false ≡ true = u in cc)
same-used s r (At (Int c)) i e u = absurd (let z : false ≡ true = u in cc)
same-used s r (At (Str c)) i e u = absurd (let z : false ≡ true = u in cc)
same-used s r (At (Name c)) i e u = absurd (let z : false ≡ true = u in cc)
same-used s r (At (Var c)) i e u = absurd (let z : false ≡ true = u in cc)
same-used s r (App f a) i e u =
    let k : sub s f ≡ sub r f = cc in
    let l : sub s a ≡ sub r a = cc in
    go (uses i f) refl u (λ q. same-used s r f i k q) (λ q. same-used s r a i l q)
  where
    go : (b : Bool) → uses i f ≡ b → (b || uses i a) ≡ true → (uses i f ≡ true → s i ≡ r i) → (uses i a ≡ true → s i ≡ r i) → s i ≡ r i
    go true d q x y = x d
    go false d q x y = y q

or_true_left : (a b : Bool) → a ≡ true → (a || b) ≡ true
or_true_left true b e = refl
or_true_left false b e = absurd (let z : false ≡ true = e in cc)

or_true_right : (a b : Bool) → b ≡ true → (a || b) ≡ true
or_true_right true b e = refl
or_true_right false b e = e

-- a name that comes in by no index in use
pub absent : (x : ℕ) (s : ℕ → Term) (t : Term) → ((j : ℕ) → uses j t ≡ true → has_name x (s j) ≡ false) → has_name x t ≡ false → has_name x (sub s t) ≡ false
absent x s (Lam b) h e = absent x (under s) b deeper e
  where
    deeper : (j : ℕ) → uses j b ≡ true → has_name x (under s j) ≡ false
    deeper zero u = refl
    deeper (suc j) u = has_name-ren x next (s j) ∙ h j u
absent x s (At (Bound j)) h e = h j (nat_eq_self j)
absent x s (At (Name n)) h e = e
absent x s (At (Con c)) h e = refl
absent x s (At _) h e = refl
absent x s (App f a) h e = or_both _ _ (absent x s f (λ j u. h j (or_true_left _ _ u)) (or_left _ _ e)) (absent x s a (λ j u. h j (or_true_right _ _ u)) (or_right _ _ e))

-- a name that is absent came in by no index in use
pub unused : (x : ℕ) (s : ℕ → Term) (i : ℕ) (t : Term) → s i ≡ At (Name x) → has_name x (sub s t) ≡ false → uses i t ≡ false
unused x s i (Lam b) q e = unused x (under s) (suc i) b (ap shift q) e
unused x s i (At (Bound j)) q e = go (nat_eq i j) refl
  where
    go : (b : Bool) → nat_eq i j ≡ b → b ≡ false
    go true d = let same : i ≡ j = eqb-true _ _ d in let k : has_name x (s i) ≡ false = subst (λ z. has_name x (s z) ≡ false) (sym same) e in let l : has_name x (s i) ≡ nat_eq x x = ap (has_name x) q in sym (nat_eq_self x) ∙ sym l ∙ k
    go false d = refl
unused x s i (At (Con c)) q e = refl
unused x s i (At _) q e = refl
unused x s i (App f a) q e = or_both _ _ (unused x s i f q (or_left _ _ e)) (unused x s i a q (or_right _ _ e))

nameless-indices : (x : ℕ) (g : ℕ → ℕ) (n : ℕ) (t : Term) → has_name x t ≡ false → has_name x (apply_all t (indices g n)) ≡ false
nameless-indices x g zero t e = e
nameless-indices x g (suc n) t e = nameless-indices x (λ i. g (suc i)) n (apply t (At (Bound (g zero)))) (nameless-apply x t (At (Bound (g zero))) e refl)

pub nameless-body : (x n : ℕ) (w : Term) → has_name x w ≡ false → has_name x (body n w) ≡ false
nameless-body x n w e = nameless-indices x (λ i. i) n (ren (beyond n) w) (has_name-ren x (beyond n) w ∙ e)

pub nameless-names : (x : ℕ) (ns : List ℕ) (t : Term) → has_name x t ≡ false → mem x ns ≡ false → has_name x (apply_all t (names ns)) ≡ false
nameless-names x [] t e m = e
nameless-names x (n ∷ ns) t e m = nameless-names x ns (apply t (At (Name n))) (nameless-apply x t (At (Name n)) e (or_left _ _ m)) (or_right _ _ m)

pub built-names : (ns : List ℕ) (t : Term) → IsBuilt t → IsBuilt (apply_all t (names ns))
built-names [] t w = w
built-names (n ∷ ns) t w = built-names ns (apply t (At (Name n))) (built-apply t (At (Name n)) w tt)

pub built-close : (n : ℕ) (t : Term) → IsBuilt t → IsBuilt (close n t)
built-close n t w = built-lam (fill (closing n) t) (built-fill (closing n) (closing_built n) t)

pub built-close_all : (ns : List ℕ) (t : Term) → IsBuilt t → IsBuilt (close_all ns t)
built-close_all [] t w = w
built-close_all (n ∷ ns) t w = built-close n (close_all ns t) (built-close_all ns t w)

-- the names that are abstracted are gone
gone : (x : ℕ) (r : Head → Term) → ((h : Head) → has_name x (r h) ≡ false) → (t : Term) → has_name x (fill r t) ≡ false
gone x r k (Lam b) = nameless-lam x (fill (below r) b) (gone x (below r) deeper b)
  where
    deeper : (h : Head) → has_name x (below r h) ≡ false
    deeper (Bound zero) = refl
    deeper (Bound (suc n)) = has_name-ren x next (r (Bound n)) ∙ k (Bound n)
    deeper (Con c) = has_name-ren x next (r (Con c)) ∙ k (Con c)
    deeper (Int c) = has_name-ren x next (r (Int c)) ∙ k (Int c)
    deeper (Str c) = has_name-ren x next (r (Str c)) ∙ k (Str c)
    deeper (Name c) = has_name-ren x next (r (Name c)) ∙ k (Name c)
    deeper (Var c) = has_name-ren x next (r (Var c)) ∙ k (Var c)
gone x r k (At h) = k h
gone x r k (App f a) = nameless-apply x (fill r f) (fill r a) (gone x r k f) (gone x r k a)

closing-gone : (x n : ℕ) → nat_eq x n ≡ true → (h : Head) → has_name x (closing n h) ≡ false
closing-gone x n e (Name k) = go (nat_eq n k) refl
  where
    go : (b : Bool) → nat_eq n k ≡ b → has_name x (cond b (At (Bound zero)) (At (Name k))) ≡ false
    go true d = refl
    go false d = let same : x ≡ n = eqb-true _ _ e in subst (λ z. nat_eq z k ≡ false) (sym same) d
closing-gone x n e (Con c) = refl
closing-gone x n e _ = refl

closing-other : (x n : ℕ) (h : Head) → is_name x h ≡ false → has_name x (closing n h) ≡ false
closing-other x n (Name k) e = go (nat_eq n k)
  where
    go : (b : Bool) → has_name x (cond b (At (Bound zero)) (At (Name k))) ≡ false
    go true = refl
    go false = e
closing-other x n (Con c) e = refl
closing-other x n _ e = refl

pub nameless-close_all : (x : ℕ) (ns : List ℕ) (t : Term) → (mem x ns ≡ false → has_name x t ≡ false) → has_name x (close_all ns t) ≡ false
nameless-close_all x [] t h = h refl
nameless-close_all x (n ∷ ns) t h = go (nat_eq x n) refl h (λ q. nameless-close_all x ns t q)
  where
    go : (b : Bool) → nat_eq x n ≡ b → ((b || mem x ns) ≡ false → has_name x t ≡ false) → ((mem x ns ≡ false → has_name x t ≡ false) → has_name x (close_all ns t) ≡ false) → has_name x (close n (close_all ns t)) ≡ false
    go true e k i = nameless-lam x (fill (closing n) (close_all ns t)) (gone x (closing n) (closing-gone x n e) (close_all ns t))
    go false e k i = nameless-lam x (fill (closing n) (close_all ns t)) (nameless-fill x (closing n) (closing-other x n) (close_all ns t) (i k))

-- an abstraction applied is a replacement, all names at once
abbrev pub swap : (Head → Term) → ℕ → Term → Head → Term
swap q n a (Name k) = cond (nat_eq n k) a (q (Name k))
swap q n a (Bound i) = q (Bound i)
swap q n a (Con c) = q (Con c)
swap q n a (Int c) = q (Int c)
swap q n a (Str c) = q (Str c)
swap q n a (Var c) = q (Var c)

swap-built : (q : Head → Term) (n : ℕ) (a : Term) → AllBuilt q → IsBuilt a → AllBuilt (swap q n a)
swap-built q n a w v (Name k) = go (nat_eq n k)
  where
    go : (b : Bool) → IsBuilt (cond b a (q (Name k)))
    go true = v
    go false = w (Name k)
swap-built q n a w v (Bound i) = w (Bound i)
swap-built q n a w v (Con c) = w (Con c)
swap-built q n a w v (Int c) = w (Int c)
swap-built q n a w v (Str c) = w (Str c)
swap-built q n a w v (Var c) = w (Var c)

swap-keeps : (q : Head → Term) (n : ℕ) (a : Term) → KeepsReady q → ready a ≡ true → KeepsReady (swap q n a)
swap-keeps q n a w v (Name k) h = go (nat_eq n k)
  where
    go : (b : Bool) → ready (cond b a (q (Name k))) ≡ true
    go true = v
    go false = w (Name k) h
swap-keeps q n a w v (Bound i) h = w (Bound i) h
swap-keeps q n a w v (Con c) h = w (Con c) h
swap-keeps q n a w v (Int c) h = w (Int c) h
swap-keeps q n a w v (Str c) h = w (Str c) h
swap-keeps q n a w v (Var c) h = w (Var c) h

first-shift : (a t : Term) → sub (first a) (shift t) ≡ t
first-shift a t = sub-ren (first a) next t ∙ sub_id t

swap-fits : (q : Head → Term) (n : ℕ) (a : Term) (h : Head) → fill (swap q n a) (sub_head (λ i. At (Bound i)) h) ≡ sub (first a) (fill (below q) (closing n h))
swap-fits q n a (Name k) = go (nat_eq n k)
  where
    go : (b : Bool) → cond b a (q (Name k)) ≡ sub (first a) (fill (below q) (cond b (At (Bound zero)) (At (Name k))))
    go true = refl
    go false = sym (first-shift a (q (Name k)))
swap-fits q n a (Bound i) = sym (first-shift a (q (Bound i)))
swap-fits q n a (Con c) = sym (first-shift a (q (Con c)))
swap-fits q n a (Int c) = sym (first-shift a (q (Int c)))
swap-fits q n a (Str c) = sym (first-shift a (q (Str c)))
swap-fits q n a (Var c) = sym (first-shift a (q (Var c)))

swap-closed : (q : Head → Term) → AllBuilt q → KeepsReady q → (n : ℕ) (a : Term) → ready a ≡ true → (t : Term) → apply (fill q (close n t)) a ≡ fill (swap q n a) t
swap-closed q w k n a h t =
    ap (λ z. apply z a) (fill-lam q w (fill (closing n) t))
    ∙ apply-lam (fill (below q) (fill (closing n) t)) a (built-fill (below q) (below-built q w) (fill (closing n) t)) h
    ∙ ap (sub (first a)) (fill-fill (below q) (closing n) (below-built q w) (below_keeps q k) t)
    ∙ sym (fill-sub (swap q n a) (λ h. fill (below q) (closing n h)) (λ i. At (Bound i)) (first a) (ready-first a h) (swap-fits q n a) t)
    ∙ ap (fill (swap q n a)) (sub_id t)

-- terms for names, one after the other
abbrev pub swaps : (Head → Term) → List ℕ → List Term → Head → Term
swaps q (n ∷ ns) (a ∷ xs) = swaps (swap q n a) ns xs
swaps q [] xs = q
swaps q (n ∷ ns) [] = q

-- arguments that are built and ready
abbrev pub BuiltReady : List Term → Type 0
BuiltReady [] = Unit {0}
BuiltReady (a ∷ xs) = (IsBuilt a × (ready a ≡ true)) × BuiltReady xs

closed-swaps : (ns : List ℕ) (xs : List Term) → length ns ≡ length xs → BuiltReady xs → (q : Head → Term) → AllBuilt q → KeepsReady q → (t : Term) → apply_all (fill q (close_all ns t)) xs ≡ fill (swaps q ns xs) t
closed-swaps [] [] l h q w k t = refl
closed-swaps (n ∷ ns) (a ∷ xs) l h q w k t = ap (λ z. apply_all z xs) (swap-closed q w k n a h.0.1 (close_all ns t)) ∙ closed-swaps ns xs (omega arith) h.1 (swap q n a) (swap-built q n a w h.0.0) (swap-keeps q n a k h.0.1) t
closed-swaps [] (a ∷ xs) l h q w k t = absurd (omega arith)
closed-swaps (n ∷ ns) [] l h q w k t = absurd (omega arith)

swaps-built : (ns : List ℕ) (xs : List Term) → BuiltReady xs → (q : Head → Term) → AllBuilt q → AllBuilt (swaps q ns xs)
swaps-built [] xs h q w = w
swaps-built (n ∷ ns) [] h q w = w
swaps-built (n ∷ ns) (a ∷ xs) h q w = swaps-built ns xs h.1 (swap q n a) (swap-built q n a w h.0.0)

swaps-keeps : (ns : List ℕ) (xs : List Term) → BuiltReady xs → (q : Head → Term) → KeepsReady q → KeepsReady (swaps q ns xs)
swaps-keeps [] xs h q w = w
swaps-keeps (n ∷ ns) [] h q w = w
swaps-keeps (n ∷ ns) (a ∷ xs) h q w = swaps-keeps ns xs h.1 (swap q n a) (swap-keeps q n a w h.0.1)

-- terms without names don't see the replacement
abbrev pub OffNames : (Head → Term) → Type 0
OffNames q = (h : Head) → ((x : ℕ) → is_name x h ≡ false) → q h ≡ At h

swap-off : (q : Head → Term) (n : ℕ) (a : Term) → OffNames q → OffNames (swap q n a)
swap-off q n a o (Name k) e = absurd (let z : true ≡ false = sym (nat_eq_self k) ∙ e k in cc)
swap-off q n a o (Bound i) e = o (Bound i) e
swap-off q n a o (Con c) e = o (Con c) e
swap-off q n a o (Int c) e = o (Int c) e
swap-off q n a o (Str c) e = o (Str c) e
swap-off q n a o (Var c) e = o (Var c) e

swaps-off : (ns : List ℕ) (xs : List Term) (q : Head → Term) → OffNames q → OffNames (swaps q ns xs)
swaps-off [] xs q w = w
swaps-off (n ∷ ns) [] q w = w
swaps-off (n ∷ ns) (a ∷ xs) q w = swaps-off ns xs (swap q n a) (swap-off q n a w)

below-off : (q : Head → Term) → OffNames q → OffNames (below q)
below-off q o (Bound zero) e = refl
below-off q o (Bound (suc n)) e = ap shift (o (Bound n) e)
below-off q o (Con c) e = ap shift (o (Con c) e)
below-off q o (Int c) e = ap shift (o (Int c) e)
below-off q o (Str c) e = ap shift (o (Str c) e)
below-off q o (Name c) e = ap shift (o (Name c) e)
below-off q o (Var c) e = ap shift (o (Var c) e)

fill-off : (q r : Head → Term) → OffNames q → OffNames r → (t : Term) → IsNameless t → fill q t ≡ fill r t
fill-off q r o p (Lam b) n = ap lam (fill-off (below q) (below r) (below-off q o) (below-off r p) b n)
fill-off q r o p (At h) n = o h n ∙ sym (p h n)
fill-off q r o p (App f a) n = ap₂ apply (fill-off q r o p f (λ x. or_left _ _ (n x))) (fill-off q r o p a (λ x. or_right _ _ (n x)))

fill-applied : (q : Head → Term) → AllBuilt q → KeepsReady q → (xs : List Term) (t : Term) → fill q (apply_all t xs) ≡ apply_all (fill q t) (map (fill q) xs)
fill-applied q w k [] t = refl
fill-applied q w k (a ∷ xs) t = fill-applied q w k xs (apply t a) ∙ ap (λ z. apply_all z (map (fill q) xs)) (fill-apply q w k t a)

swaps-skip : (k i n : ℕ) → k < i → (xs : List Term) (q : Head → Term) → swaps q (up_from i n) xs (Name k) ≡ q (Name k)
swaps-skip k i zero l xs q = refl
swaps-skip k i (suc n) l [] q = refl
swaps-skip k i (suc n) l (a ∷ xs) q = swaps-skip k (suc i) n (omega arith) xs (swap q i a) ∙ go (nat_eq i k) refl
  where
    go : (b : Bool) → nat_eq i k ≡ b → cond b a (q (Name k)) ≡ q (Name k)
    go true e = let same : i ≡ k = eqb-true _ _ e in absurd (omega arith)
    go false e = refl

swaps-at : (i n j : ℕ) → j < n → (xs : List Term) → length xs ≡ n → (q : Head → Term) → swaps q (up_from i n) xs (Name (i + j)) ≡ listed xs j
swaps-at i zero j l xs e q = absurd (omega arith)
swaps-at i (suc n) j l [] e q = absurd (omega arith)
swaps-at i (suc n) zero l (a ∷ xs) e q = let z : i + 0 ≡ i = omega arith in ap (λ k. swaps (swap q i a) (up_from (suc i) n) xs (Name k)) z ∙ swaps-skip i (suc i) n (omega arith) xs (swap q i a) ∙ ap (λ b. cond b a (q (Name i))) (nat_eq_self i)
swaps-at i (suc n) (suc j) l (a ∷ xs) e q = let z : i + suc j ≡ suc i + j = omega arith in ap (λ k. swaps (swap q i a) (up_from (suc i) n) xs (Name k)) z ∙ swaps-at (suc i) n j (omega arith) xs (omega arith) (swap q i a)

-- numbers below n
abbrev pub AllBelow : ℕ → List ℕ → Type 0
AllBelow n [] = Unit {0}
AllBelow n (k ∷ ks) = (k < n) × AllBelow n ks

picked : (n : ℕ) (xs : List Term) → length xs ≡ n → (ks : List ℕ) → AllBelow n ks → map (fill (swaps (λ h. At h) (names_below n) xs)) (names ks) ≡ map (listed xs) ks
picked n xs e [] w = refl
picked n xs e (k ∷ ks) w = ap₂ (λ (y : Term) (ys : List Term). y ∷ ys) (let z : k ≡ 0 + k = omega arith in ap (λ j. swaps (λ h. At h) (names_below n) xs (Name j)) z ∙ swaps-at 0 n k w.0 xs e (λ h. At h)) (picked n xs e ks w.1)

length-up : (k n : ℕ) → length (up_from k n) ≡ n
length-up k zero = refl
length-up k (suc n) = ap suc (length-up (suc k) n)

-- a value over kept positions, applied
pub kept-applied : (n : ℕ) (ks : List ℕ) → AllBelow n ks → (w : Term) → IsBuilt w → IsNameless w → (xs : List Term) → length xs ≡ n → BuiltReady xs
    → apply_all (close_all (names_below n) (apply_all w (names ks))) xs ≡ apply_all w (map (listed xs) ks)
kept-applied n ks h w b f xs e r =
    ap (λ z. apply_all z xs) (sym (fill_at (close_all (names_below n) (apply_all w (names ks))) (built-close_all (names_below n) (apply_all w (names ks)) (built-names ks w b))))
    ∙ closed-swaps (names_below n) xs (length-up 0 n ∙ sym e) r (λ h. At h) (λ h. tt) (λ h k. k) (apply_all w (names ks))
    ∙ fill-applied (swaps (λ h. At h) (names_below n) xs) (swaps-built (names_below n) xs r (λ h. At h) (λ h. tt)) (swaps-keeps (names_below n) xs r (λ h. At h) (λ h k. k)) (names ks) w
    ∙ ap₂ apply_all (fill-off (swaps (λ h. At h) (names_below n) xs) (λ h. At h) (swaps-off (names_below n) xs (λ h. At h) (λ h n. refl)) (λ h n. refl) w f ∙ fill_at w b) (picked n xs e ks h)

-- abstracting names and applying to them again
names-ready : (ns : List ℕ) → BuiltReady (names ns)
names-ready [] = tt
names-ready (n ∷ ns) = ((tt, ready-name n), names-ready ns)

again-fits : (n : ℕ) (h : Head) → swap (λ h. At h) n (At (Name n)) h ≡ At h
again-fits n (Name k) = go (nat_eq n k) refl
  where
    go : (b : Bool) → nat_eq n k ≡ b → cond b (At (Name n)) (At (Name k)) ≡ At (Name k)
    go true e = ap (λ z. At (Name z)) (eqb-true _ _ e)
    go false e = refl
again-fits n (Con c) = refl
again-fits n _ = refl

pub opened-close : (n : ℕ) (t : Term) → IsBuilt t → apply (close n t) (At (Name n)) ≡ t
opened-close n t w =
    ap (λ z. apply z (At (Name n))) (sym (fill_at (close n t) (built-close n t w)))
    ∙ swap-closed (λ h. At h) (λ h. tt) (λ h k. k) n (At (Name n)) (ready-name n) t
    ∙ ap (λ r. fill r t) (fun_ext (again-fits n))
    ∙ fill_at t w

pub applied-closed : (ns : List ℕ) (t : Term) → IsBuilt t → apply_all (close_all ns t) (names ns) ≡ t
applied-closed [] t w = refl
applied-closed (n ∷ ns) t w = ap (λ z. apply_all z (names ns)) (opened-close n (close_all ns t) (built-close_all ns t w)) ∙ applied-closed ns t w

-- a value that uses only kept positions is one over those
abbrev pub over : ℕ → List ℕ → Term → Term
over n ks w = close_all ks (apply_all w (names (names_below n)))

pub over-built : (n : ℕ) (ks : List ℕ) (w : Term) → IsBuilt w → IsBuilt (over n ks w)
over-built n ks w b = built-close_all ks (apply_all w (names (names_below n))) (built-names (names_below n) w b)

-- the value, applied to names, has those at the kept positions alone
abbrev pub UsesOnly : ℕ → List ℕ → Term → Type 0
UsesOnly n ks w = (x : ℕ) → mem x ks ≡ false → has_name x (apply_all w (names (names_below n))) ≡ false

pub over-nameless : (n : ℕ) (ks : List ℕ) (w : Term) → UsesOnly n ks w → IsNameless (over n ks w)
over-nameless n ks w h x = nameless-close_all x ks (apply_all w (names (names_below n))) (h x)

pub kept-over : (n : ℕ) (ks : List ℕ) (w : Term) → IsBuilt w → IsNameless w → close_all (names_below n) (apply_all (over n ks w) (names ks)) ≡ w
kept-over n ks w b f =
    ap (close_all (names_below n)) (applied-closed ks (apply_all w (names (names_below n))) (built-names (names_below n) w b))
    ∙ keeping-again 0 n w b (λ k h. f k)

-- which positions the value uses
at-most : (k n j x : ℕ) → (has_name x (listed (names (up_from k n)) j) ≡ false) ⊎ ((x ≡ k + j) × (j < n))
at-most k zero j x = inl refl
at-most k (suc n) zero x = go (nat_eq x k) refl
  where
    go : (b : Bool) → nat_eq x k ≡ b → (nat_eq x k ≡ false) ⊎ ((x ≡ k + 0) × (0 < suc n))
    go true e = let same : x ≡ k = eqb-true _ _ e in inr (omega arith, omega arith)
    go false e = inl e
at-most k (suc n) (suc j) x = go (at-most (suc k) n j x)
  where
    go : (has_name x (listed (names (up_from (suc k) n)) j) ≡ false) ⊎ ((x ≡ suc k + j) × (j < n)) → (has_name x (listed (names (up_from (suc k) n)) j) ≡ false) ⊎ ((x ≡ k + suc j) × (suc j < suc n))
    go (inl e) = inl e
    go (inr p) = let e : x ≡ suc k + j = p.0 in let l : j < n = p.1 in inr (omega arith, omega arith)

ready-list : (xs : List Term) → BuiltReady xs → ReadyList xs
ready-list [] h = tt
ready-list (a ∷ xs) h = (h.0.1, ready-list xs h.1)

length-names : (ns : List ℕ) → length (names ns) ≡ length ns
length-names [] = refl
length-names (n ∷ ns) = ap suc (length-names ns)

-- it is enough to look at the indices of the body
pub uses-only : (n : ℕ) (ks : List ℕ) (w : Term) → IsNameless w → ((j : ℕ) → j < n → uses j (body n w) ≡ true → mem j ks ≡ true) → UsesOnly n ks w
uses-only n ks w f k x m =
    subst (λ t. has_name x t ≡ false) (ap (λ l. sub (listed (names (names_below n))) (body l w)) (sym (length-names (names_below n) ∙ length-up 0 n)) ∙ applied-body (names (names_below n)) (ready-list (names (names_below n)) (names-ready (names_below n))) w)
    (absent x (listed (names (names_below n))) (body n w) each (nameless-body x n w (f x)))
  where
    each : (j : ℕ) → uses j (body n w) ≡ true → has_name x (listed (names (names_below n)) j) ≡ false
    each j u = go (at-most 0 n j x)
      where
        go : (has_name x (listed (names (up_from 0 n)) j) ≡ false) ⊎ ((x ≡ 0 + j) × (j < n)) → has_name x (listed (names (names_below n)) j) ≡ false
        go (inl e) = e
        go (inr p) = let e : x ≡ j = (let q : x ≡ 0 + j = p.0 in omega arith) in let y : mem x ks ≡ true = subst (λ z. mem z ks ≡ true) (sym e) (k j p.1 u) in absurd (let z : true ≡ false = sym y ∙ m in cc)

-- the body at other terms of that number
pub body-applied : (n : ℕ) (xs : List Term) → length xs ≡ n → BuiltReady xs → (w : Term) → sub (listed xs) (body n w) ≡ apply_all w xs
body-applied n xs e h w = ap (λ l. sub (listed xs) (body l w)) (sym e) ∙ applied-body xs (ready-list xs h) w
