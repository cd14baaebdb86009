-- The verdict on a term whose bound index is opened with a fresh name.
use Rattle.std.proofs.Common.{◌≡◌, ℕ, zero, suc, ◌<◌, ◌||◌, ◌++◌, Bool, true, false, cond, not, nat_eq, nat_lt, List, [], ◌∷◌, map, length, Option, Some, None, option_map, IfSome, refl, sym, ap, ap₂, ◌∙◌, arith, ne_eqb, eqb-true}
use Rattle.std.specs.List.{list_any}
use Rattle.std.proofs.lemmas.List.{map-append, length-map}
use Rattle.ref_terms.specs.terms.Term.{Term, Head, Con, Int, Str, Name, Bound, Var, Lam, At, App}
use Rattle.ref_terms.specs.terms.Index.{sub, under, shift, first}
use Rattle.ref_terms.specs.terms.Occurs.{has_name}
use Rattle.ref_terms.specs.lemmas.NameLemmas.{nat_eq_self, or_left, or_right}
use Rattle.ref_terms.specs.unification.Spine.{args_of, head_of}
use Rattle.ref_terms.specs.unification.Pattern.{SpineName, of_name, of_bound, same_name, spine_name, add_distinct, pattern_of}
use Rattle.ref_terms.specs.unification.Offence.{Verdict, fine, scope, foreign, dropped, or_later, Arguments, of_rigid, pattern_spine, other_spine, of_flexible, arguments, is_foreign, head_verdict, offence, along}
use Rattle.beta_fragment.specs.Names.{names}
use Rattle.beta_fragment.specs.Quoted.{AllNamesBelow}

-- the term that is this name
abbrev pub as_term : SpineName → Term
as_term (of_name n) = At (Name n)
as_term (of_bound i) = At (Bound i)

-- no other name in scope than this
abbrev IsNoOther : ℕ → SpineName → Type 0
IsNoOther d (of_name n) = n ≡ d
IsNoOther d (of_bound i) = Unit {0}

-- one index stands for a name, and the others for indices, each for another
record Opens (d : ℕ) (s : ℕ → Term) (f : ℕ → SpineName) : Type 0 where
  image : (i : ℕ) → s i ≡ as_term (f i)
  fresh : (i : ℕ) → IsNoOther d (f i)
  apart : (i j : ℕ) → same_name (f i) (f j) ≡ nat_eq i j

-- numbers one higher
suc-same : (i j : ℕ) → nat_eq (suc i) (suc j) ≡ nat_eq i j
suc-same i j = go (nat_eq i j) refl
  where
    go : (b : Bool) → nat_eq i j ≡ b → nat_eq (suc i) (suc j) ≡ nat_eq i j
    go true e = ap (λ k. nat_eq (suc i) (suc k)) (sym (eqb-true i j e)) ∙ nat_eq_self (suc i) ∙ sym e
    go false e = ne_eqb (suc i) (suc j) (λ q. let same : i ≡ j = omega (arith, q) in let k : true ≡ false = sym (nat_eq_self i) ∙ ap (nat_eq i) same ∙ e in cc) ∙ sym e

zero-after : (i : ℕ) → nat_eq 0 (suc i) ≡ false
zero-after i = ne_eqb 0 (suc i) (omega arith)

zero-before : (i : ℕ) → nat_eq (suc i) 0 ≡ false
zero-before i = ne_eqb (suc i) 0 (omega arith)

-- opening with the name
abbrev first_name : ℕ → ℕ → SpineName
first_name d zero = of_name d
first_name d (suc i) = of_bound i

first-opens : (d : ℕ) → Opens d (first (names d)) (first_name d)
first-opens d = record { image = image; fresh = fresh; apart = apart }
  where
    image : (i : ℕ) → first (names d) i ≡ as_term (first_name d i)
    image zero = refl
    image (suc i) = refl

    fresh : (i : ℕ) → IsNoOther d (first_name d i)
    fresh zero = refl
    fresh (suc i) = tt

    apart : (i j : ℕ) → same_name (first_name d i) (first_name d j) ≡ nat_eq i j
    apart zero zero = nat_eq_self d
    apart zero (suc j) = sym (zero-after j)
    apart (suc i) zero = sym (zero-before i)
    apart (suc i) (suc j) = sym (suc-same i j)

-- one abstraction further in
abbrev further : SpineName → SpineName
further (of_name n) = of_name n
further (of_bound i) = of_bound (suc i)

abbrev under_name : (ℕ → SpineName) → ℕ → SpineName
under_name f zero = of_bound 0
under_name f (suc i) = further (f i)

further-term : (k : SpineName) → shift (as_term k) ≡ as_term (further k)
further-term (of_name n) = refl
further-term (of_bound i) = refl

further-fresh : (d : ℕ) (k : SpineName) → IsNoOther d k → IsNoOther d (further k)
further-fresh d (of_name n) w = w
further-fresh d (of_bound i) w = tt

further-same : (a b : SpineName) → same_name (further a) (further b) ≡ same_name a b
further-same (of_name n) (of_name m) = refl
further-same (of_name n) (of_bound j) = refl
further-same (of_bound i) (of_name m) = refl
further-same (of_bound i) (of_bound j) = suc-same i j

further-after : (k : SpineName) → same_name (of_bound 0) (further k) ≡ false
further-after (of_name n) = refl
further-after (of_bound i) = zero-after i

further-before : (k : SpineName) → same_name (further k) (of_bound 0) ≡ false
further-before (of_name n) = refl
further-before (of_bound i) = zero-before i

under-opens : (d : ℕ) (s : ℕ → Term) (f : ℕ → SpineName) → Opens d s f → Opens d (under s) (under_name f)
under-opens d s f w = record { image = image; fresh = fresh; apart = apart }
  where
    image : (i : ℕ) → under s i ≡ as_term (under_name f i)
    image zero = refl
    image (suc i) = ap shift (w.image i) ∙ further-term (f i)

    fresh : (i : ℕ) → IsNoOther d (under_name f i)
    fresh zero = tt
    fresh (suc i) = further-fresh d (f i) (w.fresh i)

    apart : (i j : ℕ) → same_name (under_name f i) (under_name f j) ≡ nat_eq i j
    apart zero zero = refl
    apart zero (suc j) = further-after (f j) ∙ sym (zero-after j)
    apart (suc i) zero = further-before (f i) ∙ sym (zero-before i)
    apart (suc i) (suc j) = further-same (f i) (f j) ∙ w.apart i j ∙ sym (suc-same i j)

-- the name isn't this one
abbrev IsAnother : ℕ → SpineName → Type 0
IsAnother d (of_name n) = nat_eq d n ≡ false
IsAnother d (of_bound i) = Unit {0}

abbrev AllOthers : ℕ → List SpineName → Type 0
AllOthers d [] = Unit {0}
AllOthers d (k ∷ ks) = IsAnother d k × AllOthers d ks

-- no term has the name
abbrev AllLack : ℕ → List Term → Type 0
AllLack d [] = Unit {0}
AllLack d (t ∷ ts) = (has_name d t ≡ false) × AllLack d ts

lack-last : (d : ℕ) (ts : List Term) (a : Term) → AllLack d ts → has_name d a ≡ false → AllLack d (ts ++ a ∷ [])
lack-last d [] a v w = (w, tt)
lack-last d (t ∷ ts) a v w = (v.0, lack-last d ts a v.1 w)

args-lack : (d : ℕ) (t : Term) → has_name d t ≡ false → AllLack d (args_of t)
args-lack d (Lam b) w = tt
args-lack d (At h) w = tt
args-lack d (App f a) w = lack-last d (args_of f) a (args-lack d f (or_left _ _ w)) (or_right _ _ w)

name-another : (d : ℕ) (t : Term) → has_name d t ≡ false → IfSome (spine_name t) (IsAnother d)
name-another d (At (Name n)) w = w
name-another d (At (Bound i)) w = tt
name-another d (At (Con i)) w = tt
name-another d (At (Int i)) w = tt
name-another d (At (Str i)) w = tt
name-another d (At (Var i)) w = tt
name-another d (Lam b) w = tt
name-another d (App f a) w = tt

distinct-others : (d : ℕ) (o : Option SpineName) (p : Option (List SpineName)) → IfSome o (IsAnother d) → IfSome p (AllOthers d) → IfSome (add_distinct o p) (AllOthers d)
distinct-others d (Some x) (Some xs) h k = go (list_any (same_name x) xs)
  where
    go : (b : Bool) → IfSome (cond b None (Some (x ∷ xs))) (AllOthers d)
    go true = tt
    go false = (h, k)
distinct-others d (Some x) None h k = tt
distinct-others d None (Some xs) h k = tt
distinct-others d None None h k = tt

pattern-others : (d : ℕ) (ts : List Term) → AllLack d ts → IfSome (pattern_of ts) (AllOthers d)
pattern-others d [] w = tt
pattern-others d (t ∷ ts) w = distinct-others d (spine_name t) (pattern_of ts) (name-another d t w.0) (pattern-others d ts w.1)

-- the name that a name stands for
abbrev stands_for : (ℕ → SpineName) → SpineName → SpineName
stands_for f (of_name n) = of_name n
stands_for f (of_bound i) = f i

module _ (d : ℕ) (s : ℕ → Term) (f : ℕ → SpineName) (w : Opens d s f) where
  as_term-name : (k : SpineName) → spine_name (as_term k) ≡ Some k
  as_term-name (of_name n) = refl
  as_term-name (of_bound i) = refl

  name-opened : (t : Term) → spine_name (sub s t) ≡ option_map (stands_for f) (spine_name t)
  name-opened (Lam b) = refl
  name-opened (App g a) = refl
  name-opened (At (Name n)) = refl
  name-opened (At (Bound i)) = ap spine_name (w.image i) ∙ as_term-name (f i)
  name-opened (At (Con c)) = refl
  name-opened (At (Int c)) = refl
  name-opened (At (Str c)) = refl
  name-opened (At (Var c)) = refl

  name-after : (n : ℕ) (k : SpineName) → nat_eq d n ≡ false → IsNoOther d k → same_name k (of_name n) ≡ false
  name-after n (of_name m) h e = ap (λ j. nat_eq j n) e ∙ h
  name-after n (of_bound i) h e = refl

  name-before : (n : ℕ) (k : SpineName) → nat_eq d n ≡ false → IsNoOther d k → same_name (of_name n) k ≡ false
  name-before n (of_name m) h e = ap (nat_eq n) e ∙ ne_eqb n d (λ q. let k : false ≡ true = sym h ∙ ap (nat_eq d) q ∙ nat_eq_self d in cc)
  name-before n (of_bound i) h e = refl

  same-opened : (a b : SpineName) → IsAnother d a → IsAnother d b → same_name (stands_for f a) (stands_for f b) ≡ same_name a b
  same-opened (of_name n) (of_name m) h k = refl
  same-opened (of_name n) (of_bound j) h k = name-before n (f j) h (w.fresh j)
  same-opened (of_bound i) (of_name m) h k = name-after m (f i) k (w.fresh i)
  same-opened (of_bound i) (of_bound j) h k = w.apart i j

  any-opened : (x : SpineName) (xs : List SpineName) → IsAnother d x → AllOthers d xs → list_any (same_name (stands_for f x)) (map (stands_for f) xs) ≡ list_any (same_name x) xs
  any-opened x [] h k = refl
  any-opened x (y ∷ ys) h k = ap₂ (λ (a b : Bool). a || b) (same-opened x y h k.0) (any-opened x ys h k.1)

  distinct-opened : (o : Option SpineName) (p : Option (List SpineName)) → IfSome o (IsAnother d) → IfSome p (AllOthers d) →
      add_distinct (option_map (stands_for f) o) (option_map (map (stands_for f)) p) ≡ option_map (map (stands_for f)) (add_distinct o p)
  distinct-opened (Some x) (Some xs) h k =
      ap (λ b. cond b None (Some (stands_for f x ∷ map (stands_for f) xs))) (any-opened x xs h k) ∙ go (list_any (same_name x) xs)
    where
      go : (b : Bool) → cond b None (Some (stands_for f x ∷ map (stands_for f) xs)) ≡ option_map (map (stands_for f)) (cond b None (Some (x ∷ xs)))
      go true = refl
      go false = refl
  distinct-opened (Some x) None h k = refl
  distinct-opened None (Some xs) h k = refl
  distinct-opened None None h k = refl

  -- a spine is a pattern exactly where it is one after opening
  pattern-opened : (ts : List Term) → AllLack d ts → pattern_of (map (sub s) ts) ≡ option_map (map (stands_for f)) (pattern_of ts)
  pattern-opened [] h = refl
  pattern-opened (t ∷ ts) h = ap₂ add_distinct (name-opened t) (pattern-opened ts h.1) ∙ distinct-opened (spine_name t) (pattern_of ts) (name-another d t h.0) (pattern-others d ts h.1)

  as_term-args : (k : SpineName) → args_of (as_term k) ≡ []
  as_term-args (of_name n) = refl
  as_term-args (of_bound i) = refl

  args-opened : (t : Term) → args_of (sub s t) ≡ map (sub s) (args_of t)
  args-opened (Lam b) = refl
  args-opened (At (Name n)) = refl
  args-opened (At (Bound i)) = ap args_of (w.image i) ∙ as_term-args (f i)
  args-opened (At (Con c)) = refl
  args-opened (At (Int c)) = refl
  args-opened (At (Str c)) = refl
  args-opened (At (Var c)) = refl
  args-opened (App g a) = ap (λ xs. xs ++ sub s a ∷ []) (args-opened g) ∙ sym (map-append (sub s) (args_of g) (a ∷ []))

  as_term-head : (m : ℕ) (xs : List Term) (k : SpineName) → arguments m (head_of (as_term k)) xs ≡ of_rigid
  as_term-head m xs (of_name n) = refl
  as_term-head m xs (of_bound i) = refl

  head-opened : (m : ℕ) (xs : List Term) (t : Term) → arguments m (head_of (sub s t)) xs ≡ arguments m (head_of t) xs
  head-opened m xs (Lam b) = refl
  head-opened m xs (At (Name n)) = refl
  head-opened m xs (At (Bound i)) = ap (λ u. arguments m (head_of u) xs) (w.image i) ∙ as_term-head m xs (f i)
  head-opened m xs (At (Con c)) = refl
  head-opened m xs (At (Int c)) = refl
  head-opened m xs (At (Str c)) = refl
  head-opened m xs (At (Var c)) = refl
  head-opened m xs (App g a) = head-opened m xs g

  flexible-opened : (v : ℕ) (xs : List Term) → AllLack d xs → of_flexible v (map (sub s) xs) (pattern_of (map (sub s) xs)) ≡ of_flexible v xs (pattern_of xs)
  flexible-opened v xs h = ap (of_flexible v (map (sub s) xs)) (pattern-opened xs h) ∙ go (pattern_of xs)
    where
      go : (o : Option (List SpineName)) → of_flexible v (map (sub s) xs) (option_map (map (stands_for f)) o) ≡ of_flexible v xs o
      go None = refl
      go (Some ks) = ap (pattern_spine v) (length-map xs (sub s))

  arguments-opened : (m : ℕ) (o : Option Head) (xs : List Term) → AllLack d xs → arguments m o (map (sub s) xs) ≡ arguments m o xs
  arguments-opened m None xs h = refl
  arguments-opened m (Some (Var v)) xs h = ap (λ k. cond (nat_lt v m) of_rigid k) (flexible-opened v xs h)
  arguments-opened m (Some (Name n)) xs h = refl
  arguments-opened m (Some (Bound n)) xs h = refl
  arguments-opened m (Some (Con n)) xs h = refl
  arguments-opened m (Some (Int n)) xs h = refl
  arguments-opened m (Some (Str n)) xs h = refl

  kind-opened : (m : ℕ) (g a : Term) → AllLack d (args_of g ++ a ∷ []) → arguments m (head_of (sub s g)) (args_of (sub s g) ++ sub s a ∷ []) ≡ arguments m (head_of g) (args_of g ++ a ∷ [])
  kind-opened m g a h =
      head-opened m (args_of (sub s g) ++ sub s a ∷ []) g
      ∙ ap (arguments m (head_of g)) (args-opened (App g a))
      ∙ arguments-opened m (head_of g) (args_of g ++ a ∷ []) h

  count-opened : (t : Term) → length (args_of (sub s t)) ≡ length (args_of t)
  count-opened t = ap length (args-opened t) ∙ length-map (args_of t) (sub s)

-- what the verdict on an argument is, by its kind
abbrev argument : Bool → ℕ → Bool → Arguments → Verdict → Verdict → Verdict
argument loose i outside k u w = elim k [ of_rigid ↦ u | pattern_spine v n ↦ cond outside (cond loose scope (dropped v i n)) fine | other_spine ↦ w ]

parts-below : (d : ℕ) (f a : Term) → AllNamesBelow d (App f a) → AllNamesBelow d f × AllNamesBelow d a
parts-below d f a w = (λ n h. or_left _ _ (w n h), λ n h. or_right _ _ (w n h))

name-low : (d n : ℕ) → AllNamesBelow d (At (Name n)) → n < d
name-low d n w = go (nat_lt n d) refl
  where
    go : (b : Bool) → nat_lt n d ≡ b → n < d
    go true e = grind (arith, e)
    go false e = absurd (let k : true ≡ false = sym (nat_eq_self n) ∙ w n (grind (arith, e)) in cc)

-- the names that are known agree below the fresh name, which is known after opening
module _ (d m x : ℕ) (ns ns' : List ℕ) (agree : (n : ℕ) → n < d → list_any (nat_eq n) ns ≡ list_any (nat_eq n) ns') (here : list_any (nat_eq d) ns' ≡ true) where
  image-fine : (loose : Bool) (k : SpineName) → IsNoOther d k → offence m x ns' loose (as_term k) ≡ fine
  image-fine loose (of_name n) e = ap (λ j. cond (list_any (nat_eq j) ns') fine (cond loose scope foreign)) e ∙ ap (λ b. cond b fine (cond loose scope foreign)) here
  image-fine loose (of_bound i) e = refl

  image-known : (k : SpineName) → IsNoOther d k → is_foreign ns' (as_term k) ≡ false
  image-known (of_name n) e = ap (λ j. not (list_any (nat_eq j) ns')) e ∙ ap not here
  image-known (of_bound i) e = refl

  image-along : (loose : Bool) (z : Arguments) (k : SpineName) → IsNoOther d k → along m x ns' loose z (as_term k) ≡ fine
  image-along loose z (of_name n) e = image-fine loose (of_name n) e
  image-along loose z (of_bound i) e = refl

  module _ (s : ℕ → Term) (f : ℕ → SpineName) (o : Opens d s f) where
    head-same : (loose : Bool) (h : Head) → AllNamesBelow d (At h) → head_verdict x ns loose h ≡ offence m x ns' loose (sub s (At h))
    head-same loose (Name n) w = ap (λ b. cond b fine (cond loose scope foreign)) (agree n (name-low d n w))
    head-same loose (Bound i) w = sym (ap (offence m x ns' loose) (o.image i) ∙ image-fine loose (f i) (o.fresh i))
    head-same loose (Con c) w = refl
    head-same loose (Int c) w = refl
    head-same loose (Str c) w = refl
    head-same loose (Var c) w = refl

    front-same : (loose : Bool) (z : Arguments) (h : Head) → AllNamesBelow d (At h) → head_verdict x ns loose h ≡ along m x ns' loose z (sub s (At h))
    front-same loose z (Name n) w = ap (λ b. cond b fine (cond loose scope foreign)) (agree n (name-low d n w))
    front-same loose z (Bound i) w = sym (ap (along m x ns' loose z) (o.image i) ∙ image-along loose z (f i) (o.fresh i))
    front-same loose z (Con c) w = refl
    front-same loose z (Int c) w = refl
    front-same loose z (Str c) w = refl
    front-same loose z (Var c) w = refl

    foreign-same : (a : Term) → AllNamesBelow d a → is_foreign ns a ≡ is_foreign ns' (sub s a)
    foreign-same (At (Name n)) w = ap not (agree n (name-low d n w))
    foreign-same (At (Bound i)) w = sym (ap (is_foreign ns') (o.image i) ∙ image-known (f i) (o.fresh i))
    foreign-same (At (Con c)) w = refl
    foreign-same (At (Int c)) w = refl
    foreign-same (At (Str c)) w = refl
    foreign-same (At (Var c)) w = refl
    foreign-same (Lam b) w = refl
    foreign-same (App g a) w = refl

    app-same : (loose : Bool) (k : Arguments) (g a : Term) → AllNamesBelow d a → along m x ns loose k g ≡ along m x ns' loose k (sub s g) → offence m x ns loose a ≡ offence m x ns' loose (sub s a) → offence m x ns true a ≡ offence m x ns' true (sub s a) →
        along m x ns loose k (App g a) ≡ along m x ns' loose k (sub s (App g a))
    app-same loose k g a w front here_too at_loose =
        ap₂ or_later front
        (ap₂ (argument loose (length (args_of g)) (is_foreign ns a) k) here_too at_loose
        ∙ ap₂ (λ (i : ℕ) (b : Bool). argument loose i b k (offence m x ns' loose (sub s a)) (offence m x ns' true (sub s a))) (sym (count-opened d s f o g)) (foreign-same a w))

  mutual
    offence-same : (s : ℕ → Term) (f : ℕ → SpineName) → Opens d s f → (loose : Bool) (t : Term) → AllNamesBelow d t → offence m x ns loose t ≡ offence m x ns' loose (sub s t)
    offence-same s f o loose (Lam b) w = offence-same (under s) (under_name f) (under-opens d s f o) loose b w
    offence-same s f o loose (At h) w = head-same s f o loose h w
    offence-same s f o loose (App g a) w =
        let parts = parts-below d g a w in
        let k = arguments m (head_of g) (args_of g ++ a ∷ []) in
        app-same s f o loose k g a parts.1 (along-same s f o loose k g parts.0) (offence-same s f o loose a parts.1) (offence-same s f o true a parts.1)
        ∙ sym (ap (λ z. along m x ns' loose z (sub s (App g a))) (kind-opened d s f o m g a (args-lack d (App g a) (w d (omega arith)))))

    along-same : (s : ℕ → Term) (f : ℕ → SpineName) → Opens d s f → (loose : Bool) (k : Arguments) (t : Term) → AllNamesBelow d t → along m x ns loose k t ≡ along m x ns' loose k (sub s t)
    along-same s f o loose k (Lam b) w = refl
    along-same s f o loose k (At h) w = front-same s f o loose k h w
    along-same s f o loose k (App g a) w =
        let parts = parts-below d g a w in
        app-same s f o loose k g a parts.1 (along-same s f o loose k g parts.0) (offence-same s f o loose a parts.1) (offence-same s f o true a parts.1)

  -- opening a term with a fresh name that is known changes no verdict
  pub offence-opened : (loose : Bool) (b : Term) → AllNamesBelow d b → offence m x ns loose b ≡ offence m x ns' loose (sub (first (names d)) b)
  offence-opened = offence-same (first (names d)) (first_name d) (first-opens d)
