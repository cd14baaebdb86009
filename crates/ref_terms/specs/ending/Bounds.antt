-- Variables with the number of arguments that each may get.
use Rattle.std.proofs.Common.{◌≡◌, ℕ, zero, suc, ◌+◌, ◌-◌, ◌≤◌, ◌<◌, Bool, true, false, cond, ◌||◌, nat_eq, refl, sym, ap, ◌∙◌, subst, List, [], ◌∷◌, ◌++◌, map, length, arith, eqb-true}
use Rattle.ref_terms.specs.terms.Term.{Term, Lam, At, App, Head, Con, Name, Bound, Var}
use Rattle.ref_terms.specs.terms.Apply.{apply, fill}
use Rattle.ref_terms.specs.unification.Spine.{apply_all}
use Rattle.ref_terms.specs.unification.Closing.{closing, close, close_all, up_from, names_below, keeping}
use Rattle.ref_terms.specs.ending.Fits.{Fits, before}
use Rattle.ref_terms.specs.ending.Measure.{Downward, FitsThrough, fits-apply, fits-lam, fits-fill, fits-map, size, size-positive}

-- whether a number is in a list
abbrev pub mem : ℕ → List ℕ → Bool
mem v [] = false
mem v (w ∷ ws) = nat_eq v w || mem v ws

-- the list without a number
abbrev pub without : ℕ → List ℕ → List ℕ
without v [] = []
without v (w ∷ ws) = cond (nat_eq v w) (without v ws) (w ∷ without v ws)

-- the sum of the bounds of a list
abbrev pub total : (ℕ → ℕ) → List ℕ → ℕ
total b [] = 0
total b (w ∷ ws) = b w + total b ws

-- the variable is listed
abbrev pub Among : List ℕ → ℕ → ℕ → Type 0
Among vs v j = mem v vs ≡ true

-- and it gets no more arguments than that
abbrev pub Bounded : List ℕ → (ℕ → ℕ) → ℕ → ℕ → Type 0
Bounded vs b v j = (mem v vs ≡ true) × (j ≤ b v)

pub among-downward : (vs : List ℕ) → Downward (Among vs)
among-downward vs v j i h w = w

pub bounded-downward : (vs : List ℕ) (b : ℕ → ℕ) → Downward (Bounded vs b)
bounded-downward vs b v j i h w = let x : j ≤ b v = w.1 in (w.0, omega arith)

pub eq-self : (n : ℕ) → nat_eq n n ≡ true
eq-self n = grind arith

pub eq-swap : (a b : ℕ) → nat_eq a b ≡ false → nat_eq b a ≡ false
eq-swap a b e = go (nat_eq b a) refl
  where
    go : (r : Bool) → nat_eq b a ≡ r → r ≡ false
    go false d = refl
    go true d = let same : b ≡ a = eqb-true _ _ d in let k : nat_eq a a ≡ false = subst (λ z. nat_eq a z ≡ false) same e in let l : nat_eq a a ≡ true = eq-self a in cc

pub mem-first : (v : ℕ) (vs : List ℕ) → mem v (v ∷ vs) ≡ true
mem-first v vs = rw (eq-self v) refl

pub mem-later : (v w : ℕ) (vs : List ℕ) → mem v vs ≡ true → mem v (w ∷ vs) ≡ true
mem-later v w vs h = go (nat_eq v w)
  where
    go : (r : Bool) → (r || mem v vs) ≡ true
    go true = refl
    go false = h

pub mem-without : (v w : ℕ) (vs : List ℕ) → nat_eq v w ≡ false → mem w vs ≡ true → mem w (without v vs) ≡ true
mem-without v w [] n h = h
mem-without v w (x ∷ xs) n h = go (λ q. mem-without v w xs n q) (nat_eq v x) refl (nat_eq w x) refl
  where
    go : (mem w xs ≡ true → mem w (without v xs) ≡ true) → (r : Bool) → nat_eq v x ≡ r → (s : Bool) → nat_eq w x ≡ s → mem w (cond r (without v xs) (x ∷ without v xs)) ≡ true
    go i true e true d = let p : v ≡ x = eqb-true _ _ e in let q : w ≡ x = eqb-true _ _ d in let k : nat_eq v v ≡ false = subst (λ z. nat_eq v z ≡ false) (q ∙ sym p) n in let l : nat_eq v v ≡ true = eq-self v in absurd (let z : true ≡ false = sym l ∙ k in cc)
    go i true e false d = i (rw d at h)
    go i false e true d = rw d refl
    go i false e false d = rw d (i (rw d at h))

pub length-without : (v : ℕ) (vs : List ℕ) → length (without v vs) ≤ length vs
length-without v [] = omega arith
length-without v (x ∷ xs) = let k : length (without v xs) ≤ length xs = length-without v xs in go k (nat_eq v x)
  where
    go : length (without v xs) ≤ length xs → (r : Bool) → length (cond r (without v xs) (x ∷ without v xs)) ≤ suc (length xs)
    go k true = omega arith
    go k false = omega arith

pub length-without-mem : (v : ℕ) (vs : List ℕ) → mem v vs ≡ true → length (without v vs) < length vs
length-without-mem v [] h = absurd (let k : false ≡ true = h in cc)
length-without-mem v (x ∷ xs) h = go (length-without v xs) (λ q. length-without-mem v xs q) (nat_eq v x) refl
  where
    go : length (without v xs) ≤ length xs → (mem v xs ≡ true → length (without v xs) < length xs) → (r : Bool) → nat_eq v x ≡ r → length (cond r (without v xs) (x ∷ without v xs)) < suc (length xs)
    go k i true e = omega arith
    go k i false e = let l : length (without v xs) < length xs = i (rw e at h) in omega arith

pub total-without : (b : ℕ → ℕ) (v : ℕ) (vs : List ℕ) → total b (without v vs) ≤ total b vs
total-without b v [] = omega arith
total-without b v (x ∷ xs) = go (total-without b v xs) (nat_eq v x)
  where
    go : total b (without v xs) ≤ total b xs → (r : Bool) → total b (cond r (without v xs) (x ∷ without v xs)) ≤ b x + total b xs
    go k true = omega arith
    go k false = omega arith

pub total-without-mem : (b : ℕ → ℕ) (v : ℕ) (vs : List ℕ) → mem v vs ≡ true → b v + total b (without v vs) ≤ total b vs
total-without-mem b v [] h = absurd (let k : false ≡ true = h in cc)
total-without-mem b v (x ∷ xs) h = go (total-without b v xs) (λ q. total-without-mem b v xs q) (nat_eq v x) refl
  where
    go : total b (without v xs) ≤ total b xs → (mem v xs ≡ true → b v + total b (without v xs) ≤ total b xs) → (r : Bool) → nat_eq v x ≡ r → b v + total b (cond r (without v xs) (x ∷ without v xs)) ≤ b x + total b xs
    go k i true e = let same : v ≡ x = eqb-true _ _ e in let l : b v ≡ b x = ap b same in omega arith
    go k i false e = let l : b v + total b (without v xs) ≤ total b xs = i (rw e at h) in omega arith

-- the bound of one variable changed
abbrev pub changed : (ℕ → ℕ) → ℕ → ℕ → ℕ → ℕ
changed b n c w = cond (nat_eq n w) c (b w)

pub total-changed : (b : ℕ → ℕ) (n c : ℕ) (vs : List ℕ) → mem n vs ≡ false → total (changed b n c) vs ≡ total b vs
total-changed b n c [] h = refl
total-changed b n c (x ∷ xs) h = go (nat_eq n x) refl h (λ q. total-changed b n c xs q)
  where
    go : (r : Bool) → nat_eq n x ≡ r → (r || mem n xs) ≡ false → (mem n xs ≡ false → total (changed b n c) xs ≡ total b xs) → cond r c (b x) + total (changed b n c) xs ≡ b x + total b xs
    go true e d i = absurd (let k : true ≡ false = d in cc)
    go false e d i = ap (λ (y : ℕ). b x + y) (i d)

-- abstracting names
fits-close : (P : ℕ → ℕ → Type 0) → Downward P → (n : ℕ) (t : Term) (j : ℕ) → Fits P (before j) t → Fits P j (close n t)
fits-close P d n t j w = fits-lam P d (fill (closing n) t) j (fits-fill P P d (closing n) fits-closing t (before j) w)
  where
    fits-closing : FitsThrough P P (closing n)
    fits-closing (Name k) i h = go (nat_eq n k)
      where
        go : (r : Bool) → Fits P i (cond r (At (Bound zero)) (At (Name k)))
        go true = tt
        go false = tt
    fits-closing (Var v) i h = h
    fits-closing (Con c) i h = tt
    fits-closing _ i h = tt

-- j - k, cut off at 0
abbrev pub less : ℕ → ℕ → ℕ
less zero j = j
less (suc k) j = less k (before j)

pub less-is : (k j : ℕ) → less k j ≤ j - k
less-is zero j = omega arith
less-is (suc k) zero = let x : less k zero ≤ 0 - k = less-is k zero in omega arith
less-is (suc k) (suc j) = let x : less k j ≤ j - k = less-is k j in omega arith

pub fits-close_all : (P : ℕ → ℕ → Type 0) → Downward P → (ns : List ℕ) (t : Term) (j : ℕ) → Fits P (less (length ns) j) t → Fits P j (close_all ns t)
fits-close_all P d [] t j w = w
fits-close_all P d (n ∷ ns) t j w = fits-close P d n (close_all ns t) j (fits-close_all P d ns t (before j) w)

fits-applied : (P : ℕ → ℕ → Type 0) (ks : List ℕ) (t : Term) (j : ℕ) → Fits P (length ks + j) t → Fits P j (apply_all t (map (λ i. At (Name i)) ks))
fits-applied P [] t j w = let e : 0 + j ≡ j = omega arith in subst (λ i. Fits P i t) e w
fits-applied P (k ∷ ks) t j w = fits-applied P ks (apply t (At (Name k))) j (fits-apply P t (At (Name k)) (length ks + j) (let e : suc (length ks) + j ≡ suc (length ks + j) = omega arith in subst (λ i. Fits P i t) e w) tt)

pub length-up_from : (k n : ℕ) → length (up_from k n) ≡ n
length-up_from k zero = refl
length-up_from k (suc n) = ap suc (length-up_from (suc k) n)

pub fits-keeping : (P : ℕ → ℕ → Type 0) → Downward P → (n : ℕ) (kept : List ℕ) (v j : ℕ) → P v (length kept + less n j) → Fits P j (keeping n kept v)
fits-keeping P d n kept v j w =
    fits-close_all P d (names_below n) (apply_all (At (Var v)) (map (λ i. At (Name i)) kept)) j
    (subst (λ l. Fits P (less l j) (apply_all (At (Var v)) (map (λ i. At (Name i)) kept))) (sym (length-up_from 0 n))
    (fits-applied P kept (At (Var v)) (less n j) w))

-- where the variables are listed, there is a bound
pub fits-some-bound : (vs : List ℕ) (n : ℕ) (t : Term) (j : ℕ) → j + size t ≤ n → Fits (Among vs) j t → Fits (Bounded vs (λ w. n)) j t
fits-some-bound vs n (Lam b) zero h w = fits-some-bound vs n b zero (omega arith) w
fits-some-bound vs n (Lam b) (suc j) h w = fits-some-bound vs n b j (omega arith) w
fits-some-bound vs n (At (Var v)) j h w = (w, omega arith)
fits-some-bound vs n (At (Con c)) j h w = tt
fits-some-bound vs n (At _) j h w = tt
fits-some-bound vs n (App f a) j h w =
    let x : 0 < size f = size-positive f in
    let y : 0 < size a = size-positive a in
    (fits-some-bound vs n f (suc j) (omega arith) w.0, fits-some-bound vs n a 0 (omega arith) w.1)

-- and they can be listed
abbrev pub variables_of_head : Head → List ℕ
variables_of_head (Var v) = v ∷ []
variables_of_head (Con c) = []
variables_of_head _ = []

-- the variables of a term
abbrev pub variables_of : Term → List ℕ
variables_of (Lam b) = variables_of b
variables_of (At h) = variables_of_head h
variables_of (App f a) = variables_of f ++ variables_of a

pub mem-append-left : (v : ℕ) (xs ys : List ℕ) → mem v xs ≡ true → mem v (xs ++ ys) ≡ true
mem-append-left v [] ys h = absurd (let k : false ≡ true = h in cc)
mem-append-left v (x ∷ xs) ys h = go (nat_eq v x) h (λ q. mem-append-left v xs ys q)
  where
    go : (r : Bool) → (r || mem v xs) ≡ true → (mem v xs ≡ true → mem v (xs ++ ys) ≡ true) → (r || mem v (xs ++ ys)) ≡ true
    go true e i = refl
    go false e i = i e

pub mem-append-right : (v : ℕ) (xs ys : List ℕ) → mem v ys ≡ true → mem v (xs ++ ys) ≡ true
mem-append-right v [] ys h = h
mem-append-right v (x ∷ xs) ys h = mem-later v x (xs ++ ys) (mem-append-right v xs ys h)

pub fits-listed : (t : Term) (j : ℕ) → Fits (Among (variables_of t)) j t
fits-listed (Lam b) j = fits-listed b (before j)
fits-listed (At (Var v)) j = mem-first v []
fits-listed (At (Con c)) j = tt
fits-listed (At _) j = tt
fits-listed (App f a) j = (
  fits-map (Among (variables_of f)) (Among (variables_of f ++ variables_of a)) (λ v i h. mem-append-left v (variables_of f) (variables_of a) h) f (suc j) (fits-listed f (suc j)),
  fits-map (Among (variables_of a)) (Among (variables_of f ++ variables_of a)) (λ v i h. mem-append-right v (variables_of f) (variables_of a) h) a 0 (fits-listed a 0),
)
