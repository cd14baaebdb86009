-- Instances keep rigid heads and their arguments; a value applied to a pattern spine.
use Rattle.std.proofs.Common.{◌≡◌, ℕ, zero, suc, ◌+◌, ◌≤◌, Bool, true, false, cond, ◌||◌, nat_eq, nat_lt, refl, sym, ap, ◌∙◌, subst, arith, List, [], ◌∷◌, ◌++◌, length, length-append, Option, Some, None}
use Rattle.std.specs.List.{list_any}
use Rattle.ref_terms.specs.terms.Term.{Term, Lam, At, App, Head, Con, Int, Str, Name, Bound, Var}
use Rattle.ref_terms.specs.terms.Index.{shift}
use Rattle.ref_terms.specs.terms.Apply.{apply, below, fill}
use Rattle.ref_terms.specs.unification.Spine.{args_of, head_of}
use Rattle.ref_terms.specs.unification.Pattern.{SpineName, of_name, of_bound, spine_name, same_name, add_distinct, pattern_of, names_of}
use Rattle.ref_terms.specs.terms.Occurs.{is_name}
use Rattle.ref_terms.proofs.unification.CountLemmas.{tally, count, NoBound, count-apply_none, IsPlain, lams, core, balance}

-- rigid heads
abbrev pub is_rigid : ℕ → Head → Bool
is_rigid m (Var v) = nat_lt v m
is_rigid m (Con c) = true
is_rigid m (Int c) = true
is_rigid m (Str c) = true
is_rigid m (Name c) = true
is_rigid m (Bound c) = true

-- the replacement leaves them alone
abbrev pub RigidStay : ℕ → (Head → Term) → Type 0
RigidStay m r = (h : Head) → is_rigid m h ≡ true → r h ≡ At h

pub stay-below : (m : ℕ) (r : Head → Term) → RigidStay m r → RigidStay m (below r)
stay-below m r k (Bound zero) e = refl
stay-below m r k (Bound (suc n)) e = ap shift (k (Bound n) refl)
stay-below m r k (Con c) e = ap shift (k (Con c) refl)
stay-below m r k (Int c) e = ap shift (k (Int c) refl)
stay-below m r k (Str c) e = ap shift (k (Str c) refl)
stay-below m r k (Name c) e = ap shift (k (Name c) refl)
stay-below m r k (Var c) e = ap shift (k (Var c) e)

-- a term with a head takes an argument as it is
pub apply_headed : (f a : Term) (h : Head) → head_of f ≡ Some h → apply f a ≡ App f a
apply_headed (Lam b) a h e = absurd (let z : None ≡ Some h = e in cc)
apply_headed (At k) a h e = refl
apply_headed (App f b) a h e = refl

pub head-counted : (p : Head → Bool) (t : Term) (h : Head) → head_of t ≡ Some h → tally (p h) ≤ count p t
head-counted p (Lam b) h e = absurd (let z : None ≡ Some h = e in cc)
head-counted p (At k) h e =
    let same : k ≡ h = let z : Some k ≡ Some h = e in cc in
    let d : tally (p k) ≡ tally (p h) = ap (λ q. tally (p q)) same in omega arith
head-counted p (App f a) h e = let i = head-counted p f h e in omega arith

module _ (m : ℕ) (r : Head → Term) (stays : RigidStay m r) where
  pub rigid-head : (t : Term) (h : Head) → is_rigid m h ≡ true → head_of t ≡ Some h → head_of (fill r t) ≡ Some h
  rigid-head (Lam b) h g e = absurd (let z : None ≡ Some h = e in cc)
  rigid-head (At k) h g e =
      let same : h ≡ k = let z : Some k ≡ Some h = e in cc in
      ap head_of (stays k (subst (λ q. is_rigid m q ≡ true) same g)) ∙ e
  rigid-head (App f a) h g e = let i = rigid-head f h g e in ap head_of (apply_headed (fill r f) (fill r a) h i) ∙ i

  pub rigid-length : (t : Term) (h : Head) → is_rigid m h ≡ true → head_of t ≡ Some h → length (args_of (fill r t)) ≡ length (args_of t)
  rigid-length (Lam b) h g e = absurd (let z : None ≡ Some h = e in cc)
  rigid-length (At k) h g e =
      let same : h ≡ k = let z : Some k ≡ Some h = e in cc in
      ap (λ w. length (args_of w)) (stays k (subst (λ q. is_rigid m q ≡ true) same g))
  rigid-length (App f a) h g e =
      let i = rigid-length f h g e in
      ap (λ w. length (args_of w)) (apply_headed (fill r f) (fill r a) h (rigid-head f h g e)) ∙ simp length-append (omega arith)

  pub plain-stays : (a : Term) → IsPlain a → fill r a ≡ a
  plain-stays (At (Name n)) w = stays (Name n) refl
  plain-stays (At (Bound n)) w = stays (Bound n) refl
  plain-stays (At (Con c)) w = absurd w
  plain-stays (At (Int c)) w = absurd w
  plain-stays (At (Str c)) w = absurd w
  plain-stays (At (Var c)) w = absurd w
  plain-stays (Lam b) w = absurd w
  plain-stays (App f a) w = absurd w

-- each item of a list
abbrev pub AllOf : (Term → Type 0) → List Term → Type 0
AllOf P [] = Unit {0}
AllOf P (x ∷ xs) = P x × AllOf P xs

all-front : (P : Term → Type 0) (xs ys : List Term) → AllOf P (xs ++ ys) → AllOf P xs
all-front P [] ys w = tt
all-front P (x ∷ xs) ys w = (w.0, all-front P xs ys w.1)

all-last : (P : Term → Type 0) (xs : List Term) (a : Term) → AllOf P (xs ++ a ∷ []) → P a
all-last P [] a w = w.0
all-last P (x ∷ xs) a w = all-last P xs a w.1

-- a name or an index alone that isn't counted
abbrev pub Unmet : (Head → Bool) → Term → Type 0
Unmet p t = IsPlain t × (count p t ≡ 0)

module _ (m : ℕ) (r : Head → Term) (stays : RigidStay m r) (p : Head → Bool) (n : NoBound p) where
  -- names in a spine add nothing to a count of the value
  pub flex-count : (t : Term) (v : ℕ) → head_of t ≡ Some (Var v) → AllOf (Unmet p) (args_of t) → count p (fill r t) ≡ count p (r (Var v))
  flex-count (Lam b) v e w = absurd (let z : None ≡ Some (Var v) = e in cc)
  flex-count (At h) v e w = let same : h ≡ Var v = let z : Some h ≡ Some (Var v) = e in cc in ap (λ q. count p (r q)) same
  flex-count (App f a) v e w =
      let k : Unmet p a = all-last (Unmet p) (args_of f) a w in
      let s = plain-stays m r stays a k.0 in
      count-apply_none p n (fill r f) (fill r a) (ap (count p) s ∙ k.1) ∙ flex-count f v e (all-front (Unmet p) (args_of f) (a ∷ []) w)

  pub flex-balance : (t : Term) (v : ℕ) → head_of t ≡ Some (Var v) → AllOf (Unmet p) (args_of t) → core (fill r t) + lams (r (Var v)) ≡ core (r (Var v)) + lams (fill r t) + length (args_of t)
  flex-balance (Lam b) v e w = absurd (let z : None ≡ Some (Var v) = e in cc)
  flex-balance (At h) v e w =
      let same : h ≡ Var v = let z : Some h ≡ Some (Var v) = e in cc in
      let c : core (r h) ≡ core (r (Var v)) = ap (λ q. core (r q)) same in
      let l : lams (r h) ≡ lams (r (Var v)) = ap (λ q. lams (r q)) same in
      omega arith
  flex-balance (App f a) v e w =
      let k : Unmet p a = all-last (Unmet p) (args_of f) a w in
      let s = plain-stays m r stays a k.0 in
      let b = balance (fill r f) (fill r a) (subst IsPlain (sym s) k.0) in
      let i = flex-balance f v e (all-front (Unmet p) (args_of f) (a ∷ []) w) in
      let d : length (args_of f ++ a ∷ []) ≡ length (args_of f) + 1 = simp length-append in
      omega arith

-- none of the names is counted
abbrev pub Outside : (Head → Bool) → List ℕ → Type 0
Outside p [] = Unit {0}
Outside p (n ∷ ns) = (p (Name n) ≡ false) × Outside p ns

pub outside-all : (p : Head → Bool) → ((k : ℕ) → p (Name k) ≡ false) → (ns : List ℕ) → Outside p ns
outside-all p h [] = tt
outside-all p h (n ∷ ns) = (h n, outside-all p h ns)

pub or_left : (a b : Bool) → (a || b) ≡ false → a ≡ false
or_left false b e = refl
or_left true b e = e

pub or_right : (a b : Bool) → (a || b) ≡ false → b ≡ false
or_right false b e = e
or_right true b e = absurd (let k : true ≡ false = e in cc)

pub outside-any : (n : ℕ) (ns : List ℕ) → list_any (nat_eq n) ns ≡ false → Outside (is_name n) ns
outside-any n [] e = tt
outside-any n (k ∷ ns) e = (or_left _ _ e, outside-any n ns (or_right _ _ e))

module _ (p : Head → Bool) (n : NoBound p) where
  unmet-spine_name : (t : Term) (x : SpineName) (xs : List SpineName) → spine_name t ≡ Some x → Outside p (names_of (x ∷ xs)) → Unmet p t
  unmet-spine_name (At (Name k)) x xs e o =
      let same : x ≡ of_name k = let z : Some (of_name k) ≡ Some x = e in cc in
      let w : Outside p (k ∷ names_of xs) = subst (λ q. Outside p (names_of (q ∷ xs))) same o in
      (tt, ap tally w.0)
  unmet-spine_name (At (Bound k)) x xs e o = (tt, ap tally (n k))
  unmet-spine_name (At (Con k)) x xs e o = absurd (let z : None ≡ Some x = e in cc)
  unmet-spine_name (At (Int k)) x xs e o = absurd (let z : None ≡ Some x = e in cc)
  unmet-spine_name (At (Str k)) x xs e o = absurd (let z : None ≡ Some x = e in cc)
  unmet-spine_name (At (Var k)) x xs e o = absurd (let z : None ≡ Some x = e in cc)
  unmet-spine_name (Lam b) x xs e o = absurd (let z : None ≡ Some x = e in cc)
  unmet-spine_name (App f a) x xs e o = absurd (let z : None ≡ Some x = e in cc)

  outside-tail : (x : SpineName) (xs : List SpineName) → Outside p (names_of (x ∷ xs)) → Outside p (names_of xs)
  outside-tail (of_name k) xs o = o.1
  outside-tail (of_bound k) xs o = o

  -- arguments in which no head passes the test, as many as names
  abbrev pub AllUnmet : List Term → List SpineName → Type 0
  AllUnmet ts ks = AllOf (Unmet p) ts × (length ks ≡ length ts)

  pub pattern-unmet : (ts : List Term) (ks : List SpineName) → pattern_of ts ≡ Some ks → Outside p (names_of ks) → AllUnmet ts ks
  pattern-unmet [] ks e o = (tt, let z : Some [] ≡ Some ks = e in let same : ks ≡ [] = cc in ap length same)
  pattern-unmet (t ∷ ts) ks e o = go (spine_name t) refl (pattern_of ts) refl (λ q d w. pattern-unmet ts q d w) e
    where
      deep : (x : SpineName) → spine_name t ≡ Some x → (xs : List SpineName) → (Outside p (names_of xs) → AllUnmet ts xs) → (b : Bool) → cond b None (Some (x ∷ xs)) ≡ Some ks → AllUnmet (t ∷ ts) ks
      deep x d xs i true e = absurd (let z : None ≡ Some ks = e in cc)
      deep x d xs i false e =
          let same : ks ≡ x ∷ xs = let z : Some (x ∷ xs) ≡ Some ks = e in cc in
          let w : Outside p (names_of (x ∷ xs)) = subst (λ q. Outside p (names_of q)) same o in
          let j = i (outside-tail x xs w) in
          ((unmet-spine_name t x xs d w, j.0), ap length same ∙ ap suc j.1)

      go : (k : Option SpineName) → spine_name t ≡ k → (q : Option (List SpineName)) → pattern_of ts ≡ q → ((q : List SpineName) → pattern_of ts ≡ Some q → Outside p (names_of q) → AllUnmet ts q) → add_distinct k q ≡ Some ks → AllUnmet (t ∷ ts) ks
      go (Some x) d (Some xs) c i e = deep x d xs (i xs c) (list_any (same_name x) xs) e
      go (Some x) d None c i e = absurd (let z : None ≡ Some ks = e in cc)
      go None d q c i e = absurd (let z : None ≡ Some ks = e in cc)
