-- What a clash of the offence says of every instance.
use Rattle.std.proofs.Common.{◌≡◌, ℕ, ◌+◌, ◌≤◌, Bool, true, false, cond, nat_eq, nat_lt, refl, sym, ap, ◌∙◌, subst, arith, List, [], ◌∷◌, ◌++◌, length, Option, Some, None, eqb-true}
use Rattle.std.specs.List.{list_any}
use Rattle.ref_terms.specs.terms.Term.{Term, Lam, At, App, Head, Con, Int, Str, Name, Bound, Var}
use Rattle.ref_terms.specs.terms.Index.{next}
use Rattle.ref_terms.specs.terms.Apply.{below, fill}
use Rattle.ref_terms.specs.unification.Spine.{args_of, head_of}
use Rattle.ref_terms.specs.unification.Pattern.{SpineName, pattern_of}
use Rattle.ref_terms.specs.unification.Offence.{Verdict, fine, redex, scope, itself, foreign, dropped, or_later, Arguments, of_rigid, pattern_spine, other_spine, of_flexible, arguments, is_foreign, head_verdict, offence, along}
use Rattle.ref_terms.specs.terms.Occurs.{is_name}
use Rattle.ref_terms.proofs.unification.CountLemmas.{tally, count, NoBound, count-ren, count-apply, count-lam}
use Rattle.ref_terms.proofs.unification.HeadLemmas.{is_rigid, RigidStay, stay-below, apply_headed, head-counted, rigid-head}

-- no clash
abbrev pub Quiet : Verdict → Type 0
Quiet fine = Unit {0}
Quiet redex = Unit {0}
Quiet scope = Unit {0}
Quiet itself = ⊥
Quiet foreign = ⊥
Quiet (dropped y i n) = Unit {0}

quiet-later : (v w : Verdict) → Quiet v → Quiet w → Quiet (or_later v w)
quiet-later fine w a b = b
quiet-later redex w a b = tt
quiet-later scope w a b = tt
quiet-later itself w a b = a
quiet-later foreign w a b = a
quiet-later (dropped y i n) w a b = tt

or-redex : (v w : Verdict) → v ≡ redex → or_later v w ≡ redex
or-redex v w e = rw e refl

-- the head of a of_rigid spine's front is an abstraction
pub redex-along : (m x : ℕ) (ns : List ℕ) (l : Bool) (k : Arguments) (t : Term) → head_of t ≡ None → along m x ns l k t ≡ redex
redex-along m x ns l k (Lam b) e = refl
redex-along m x ns l k (At h) e = absurd (let z : Some h ≡ None = e in cc)
redex-along m x ns l of_rigid (App f a) e = or-redex (along m x ns l of_rigid f) (offence m x ns l a) (redex-along m x ns l of_rigid f e)
redex-along m x ns l other_spine (App f a) e = or-redex (along m x ns l other_spine f) (offence m x ns true a) (redex-along m x ns l other_spine f e)
redex-along m x ns l (pattern_spine v n) (App f a) e = or-redex (along m x ns l (pattern_spine v n) f) (cond (is_foreign ns a) (cond l scope (dropped v (length (args_of f)) n)) fine) (redex-along m x ns l (pattern_spine v n) f e)

pattern-quiet : (l b : Bool) (v i n : ℕ) → Quiet (cond b (cond l scope (dropped v i n)) fine)
pattern-quiet true true v i n = tt
pattern-quiet false true v i n = tt
pattern-quiet l false v i n = tt

module _ (m x : ℕ) (ns : List ℕ) where
  -- a loose place is no clash
  head-quiet : (h : Head) → Quiet (head_verdict x ns true h)
  head-quiet (Var v) = go (nat_eq x v)
    where
      go : (b : Bool) → Quiet (cond b (cond true scope itself) fine)
      go true = tt
      go false = tt
  head-quiet (Name n) = go (list_any (nat_eq n) ns)
    where
      go : (b : Bool) → Quiet (cond b fine (cond true scope foreign))
      go true = tt
      go false = tt
  head-quiet (Con c) = tt
  head-quiet _ = tt

  -- both looks at a term
  abbrev QuietOf : Term → Type 0
  QuietOf t = Quiet (offence m x ns true t) × ((k : Arguments) → Quiet (along m x ns true k t))

  quiet-app : (k : Arguments) (f a : Term) → Quiet (along m x ns true k f) → Quiet (offence m x ns true a) → Quiet (along m x ns true k (App f a))
  quiet-app of_rigid f a i j = quiet-later (along m x ns true of_rigid f) (offence m x ns true a) i j
  quiet-app other_spine f a i j = quiet-later (along m x ns true other_spine f) (offence m x ns true a) i j
  quiet-app (pattern_spine v n) f a i j = quiet-later (along m x ns true (pattern_spine v n) f) (cond (is_foreign ns a) (cond true scope (dropped v (length (args_of f)) n)) fine) i (pattern-quiet true (is_foreign ns a) v (length (args_of f)) n)

  pub loose-quiet : (t : Term) → QuietOf t
  loose-quiet (Lam b) = ((loose-quiet b).0, λ k. tt)
  loose-quiet (At h) = (head-quiet h, λ k. head-quiet h)
  loose-quiet (App f a) = (
    let k = arguments m (head_of f) (args_of f ++ a ∷ []) in quiet-app k f a ((loose-quiet f).1 k) (loose-quiet a).0,
    λ k. quiet-app k f a ((loose-quiet f).1 k) (loose-quiet a).0,
  )

  -- another variable with a spine that is no pattern
  other_spine-quiet : (t : Term) (w : ℕ) → head_of t ≡ Some (Var w) → nat_eq x w ≡ false → Quiet (along m x ns false other_spine t)
  other_spine-quiet (Lam b) w e d = tt
  other_spine-quiet (At h) w e d =
      let same : Var w ≡ h = let z : Some h ≡ Some (Var w) = e in cc in
      subst (λ q. Quiet (head_verdict x ns false q)) same (go (nat_eq x w) d)
    where
      go : (b : Bool) → b ≡ false → Quiet (cond b (cond false scope itself) fine)
      go true z = absurd (let y : true ≡ false = z in cc)
      go false z = tt
  other_spine-quiet (App f a) w e d = quiet-later (along m x ns false other_spine f) (offence m x ns true a) (other_spine-quiet f w e d) (loose-quiet a).0

  pub no_pattern-quiet : (t : Term) (w : ℕ) → head_of t ≡ Some (Var w) → nat_lt w m ≡ false → nat_eq x w ≡ false → pattern_of (args_of t) ≡ None → Quiet (offence m x ns false t)
  no_pattern-quiet (Lam b) w e g d q = absurd (let z : None ≡ Some (Var w) = e in cc)
  no_pattern-quiet (At h) w e g d q = absurd (let y : List SpineName = [] in let z : Some y ≡ None = q in cc)
  no_pattern-quiet (App f a) w e g d q = subst (λ k. Quiet (along m x ns false k (App f a))) (sym same) (other_spine-quiet (App f a) w e d)
    where
      same : arguments m (head_of f) (args_of f ++ a ∷ []) ≡ other_spine
      same = ap (λ o. arguments m o (args_of f ++ a ∷ [])) e ∙ ap (λ b. cond b of_rigid (of_flexible w (args_of f ++ a ∷ []) (pattern_of (args_of f ++ a ∷ [])))) g ∙ ap (of_flexible w (args_of f ++ a ∷ [])) q

-- a name that isn't among these stands in the term
pub record HasForeign (ns : List ℕ) (t : Term) : Type 0 where
  pub name : ℕ
  pub outside : list_any (nat_eq name) ns ≡ false
  pub stands : 1 ≤ count (is_name name) t

pub no_bound-name : (n : ℕ) → NoBound (is_name n)
no_bound-name n i = refl

module _ (m x : ℕ) (ns : List ℕ) (assignable : nat_lt x m ≡ false) (U : Term) where
  -- the instance t holds what U holds, or a foreign name
  abbrev pub Says : Verdict → Term → Type 0
  Says itself t = (p : Head → Bool) → NoBound p → count p U ≤ count p t
  Says foreign t = HasForeign ns t
  Says fine t = Unit {0}
  Says redex t = Unit {0}
  Says scope t = Unit {0}
  Says (dropped y i n) t = Unit {0}

  -- and its head besides
  abbrev pub Strong : Head → Verdict → Term → Type 0
  Strong h itself t = (p : Head → Bool) → NoBound p → count p U + tally (p h) ≤ count p t
  Strong h foreign t = HasForeign ns t
  Strong h fine t = Unit {0}
  Strong h redex t = Unit {0}
  Strong h scope t = Unit {0}
  Strong h (dropped y i n) t = Unit {0}

  -- an instance by U for the variable x, below some abstractions
  pub record IsInstance (r : Head → Term) : Type 0 where
    pub stays : RigidStay m r
    pub carries : (p : Head → Bool) → NoBound p → count p (r (Var x)) ≡ count p U

  below-instance : (r : Head → Term) → IsInstance r → IsInstance (below r)
  below-instance r i = record { stays = stay-below m r i.stays; carries = λ p n. count-ren p n next (r (Var x)) ∙ i.carries p n }

  foreign-more : (s t : Term) → ((p : Head → Bool) → NoBound p → count p s ≤ count p t) → HasForeign ns s → HasForeign ns t
  foreign-more s t k w = record { name = w.name; outside = w.outside; stands = let a = w.stands in let b = k (is_name w.name) (no_bound-name w.name) in omega arith }

  says-more : (w : Verdict) (s t : Term) → ((p : Head → Bool) → NoBound p → count p s ≤ count p t) → Says w s → Says w t
  says-more itself s t k a = λ p n. let c = a p n in let d = k p n in omega arith
  says-more foreign s t k a = foreign-more s t k a
  says-more fine s t k a = tt
  says-more redex s t k a = tt
  says-more scope s t k a = tt
  says-more (dropped y i n) s t k a = tt

  quiet-says : (w : Verdict) (t : Term) → Quiet w → Says w t
  quiet-says itself t q = absurd q
  quiet-says foreign t q = absurd q
  quiet-says fine t q = tt
  quiet-says redex t q = tt
  quiet-says scope t q = tt
  quiet-says (dropped y i n) t q = tt

  says-later : (v w : Verdict) (t : Term) → Says v t → Says w t → Says (or_later v w) t
  says-later fine w t a b = b
  says-later itself w t a b = a
  says-later foreign w t a b = a
  says-later redex w t a b = tt
  says-later scope w t a b = tt
  says-later (dropped y i n) w t a b = tt

  weak : (h : Head) (w : Verdict) (t : Term) → Strong h w t → Says w t
  weak h itself t a = λ p n. let c = a p n in omega arith
  weak h foreign t a = a
  weak h fine t a = tt
  weak h redex t a = tt
  weak h scope t a = tt
  weak h (dropped y i n) t a = tt

  -- the front says it, or else the argument
  strong-app : (h : Head) (v w : Verdict) (f a : Term) → ((p : Head → Bool) → tally (p h) ≤ count p f) → Strong h v f → Says w a → Strong h (or_later v w) (App f a)
  strong-app h fine itself f a c i j = λ p n. let d = c p in let e = j p n in omega arith
  strong-app h fine foreign f a c i j = foreign-more a (App f a) (λ p n. omega arith) j
  strong-app h fine fine f a c i j = tt
  strong-app h fine redex f a c i j = tt
  strong-app h fine scope f a c i j = tt
  strong-app h fine (dropped y k n) f a c i j = tt
  strong-app h itself w f a c i j = λ p n. let d = i p n in omega arith
  strong-app h foreign w f a c i j = foreign-more f (App f a) (λ p n. omega arith) i
  strong-app h redex w f a c i j = tt
  strong-app h scope w f a c i j = tt
  strong-app h (dropped y k n) w f a c i j = tt

  foreign-head : (r : Head → Term) → IsInstance r → (n : ℕ) (b : Bool) → list_any (nat_eq n) ns ≡ b → Says (cond b fine (cond false scope foreign)) (r (Name n))
  foreign-head r i n true e = tt
  foreign-head r i n false e =
      let s : count (is_name n) (r (Name n)) ≡ tally (nat_eq n n) = ap (count (is_name n)) (i.stays (Name n) refl) in
      let q : nat_eq n n ≡ true = grind arith in
      let c : tally (nat_eq n n) ≡ 1 = ap tally q in
      record { name = n; outside = e; stands = omega arith }

  head-says : (r : Head → Term) → IsInstance r → (h : Head) → Says (head_verdict x ns false h) (r h)
  head-says r i (Var v) = go (nat_eq x v) refl
    where
      go : (b : Bool) → nat_eq x v ≡ b → Says (cond b (cond false scope itself) fine) (r (Var v))
      go true e = λ p n. let same : x ≡ v = eqb-true _ _ e in let c = i.carries p n in let d : count p (r (Var x)) ≡ count p (r (Var v)) = ap (λ q. count p (r (Var q))) same in omega arith
      go false e = tt
  head-says r i (Name n) = foreign-head r i n (list_any (nat_eq n) ns) refl
  head-says r i (Con c) = tt
  head-says r i _ = tt

  head-strong : (r : Head → Term) → IsInstance r → (h : Head) → is_rigid m h ≡ true → Strong h (head_verdict x ns false h) (r h)
  head-strong r i (Var v) g = go (nat_eq x v) refl
    where
      go : (b : Bool) → nat_eq x v ≡ b → Strong (Var v) (cond b (cond false scope itself) fine) (r (Var v))
      go true e = absurd (let same : x ≡ v = eqb-true _ _ e in let z : nat_lt x m ≡ nat_lt v m = ap (λ q. nat_lt q m) same in let y : false ≡ true = sym assignable ∙ z ∙ g in cc)
      go false e = tt
  head-strong r i (Name n) g = go (list_any (nat_eq n) ns) refl
    where
      go : (b : Bool) → list_any (nat_eq n) ns ≡ b → Strong (Name n) (cond b fine (cond false scope foreign)) (r (Name n))
      go true e = tt
      go false e = foreign-head r i n false e
  head-strong r i (Con c) g = tt
  head-strong r i _ g = tt

  -- below a variable's head, only the head itself can clash
  flex-says : (r : Head → Term) → IsInstance r → (o : Option (List SpineName)) (v : ℕ) (xs : List Term) (t : Term) → Says (along m x ns false (of_flexible v xs o) t) (fill r t)
  flex-says r i o v xs (Lam b) = tt
  flex-says r i o v xs (At h) = head-says r i h
  flex-says r i None v xs (App f a) =
      says-later (along m x ns false other_spine f) (offence m x ns true a) (fill r (App f a))
      (says-more (along m x ns false other_spine f) (fill r f) (fill r (App f a)) (λ p n. count-apply p n (fill r f) (fill r a)) (flex-says r i None v xs f))
      (quiet-says (offence m x ns true a) (fill r (App f a)) (loose-quiet m x ns a).0)
  flex-says r i (Some ks) v xs (App f a) =
      let k = pattern_spine v (length xs) in
      let w = cond (is_foreign ns a) (cond false scope (dropped v (length (args_of f)) (length xs))) fine in
      says-later (along m x ns false k f) w (fill r (App f a))
      (says-more (along m x ns false k f) (fill r f) (fill r (App f a)) (λ p n. count-apply p n (fill r f) (fill r a)) (flex-says r i (Some ks) v xs f))
      (quiet-says w (fill r (App f a)) (pattern-quiet false (is_foreign ns a) v (length (args_of f)) (length xs)))

  -- both looks at a term
  abbrev SaysOf : Term → Type 0
  SaysOf t = ((r : Head → Term) → IsInstance r → Says (offence m x ns false t) (fill r t))
      × ((r : Head → Term) → IsInstance r → (h : Head) → is_rigid m h ≡ true → head_of t ≡ Some h → Strong h (along m x ns false of_rigid t) (fill r t))

  rigid-app : (f a : Term) → SaysOf f → SaysOf a → (r : Head → Term) → IsInstance r → (h : Head) → is_rigid m h ≡ true → head_of f ≡ Some h → Strong h (along m x ns false of_rigid (App f a)) (fill r (App f a))
  rigid-app f a j k r i h g e =
      let d = rigid-head m r i.stays f h g e in
      subst (λ w. Strong h (along m x ns false of_rigid (App f a)) w) (sym (apply_headed (fill r f) (fill r a) h d))
      (strong-app h (along m x ns false of_rigid f) (offence m x ns false a) (fill r f) (fill r a) (λ p. head-counted p (fill r f) h d) (j.1 r i h g e) (k.0 r i))

  says-app : (f a : Term) → SaysOf f → SaysOf a → (r : Head → Term) → IsInstance r → (o : Option Head) → head_of f ≡ o → Says (along m x ns false (arguments m o (args_of f ++ a ∷ [])) (App f a)) (fill r (App f a))
  says-app f a j k r i None e = subst (λ w. Says w (fill r (App f a))) (sym (redex-along m x ns false of_rigid (App f a) e)) tt
  says-app f a j k r i (Some (Var v)) e = go (nat_lt v m) refl
    where
      go : (b : Bool) → nat_lt v m ≡ b → Says (along m x ns false (cond b of_rigid (of_flexible v (args_of f ++ a ∷ []) (pattern_of (args_of f ++ a ∷ [])))) (App f a)) (fill r (App f a))
      go true d = weak (Var v) (along m x ns false of_rigid (App f a)) (fill r (App f a)) (rigid-app f a j k r i (Var v) d e)
      go false d = flex-says r i (pattern_of (args_of f ++ a ∷ [])) v (args_of f ++ a ∷ []) (App f a)
  says-app f a j k r i (Some (Con c)) e = weak (Con c) (along m x ns false of_rigid (App f a)) (fill r (App f a)) (rigid-app f a j k r i (Con c) refl e)
  says-app f a j k r i (Some (Int c)) e = weak (Int c) (along m x ns false of_rigid (App f a)) (fill r (App f a)) (rigid-app f a j k r i (Int c) refl e)
  says-app f a j k r i (Some (Str c)) e = weak (Str c) (along m x ns false of_rigid (App f a)) (fill r (App f a)) (rigid-app f a j k r i (Str c) refl e)
  says-app f a j k r i (Some (Name c)) e = weak (Name c) (along m x ns false of_rigid (App f a)) (fill r (App f a)) (rigid-app f a j k r i (Name c) refl e)
  says-app f a j k r i (Some (Bound c)) e = weak (Bound c) (along m x ns false of_rigid (App f a)) (fill r (App f a)) (rigid-app f a j k r i (Bound c) refl e)

  says : (t : Term) → SaysOf t
  says (Lam b) = (
    λ r i. says-more (offence m x ns false b) (fill (below r) b) (fill r (Lam b)) (λ p n. let e = count-lam p n (fill (below r) b) in omega arith) ((says b).0 (below r) (below-instance r i)),
    λ r i h g e. tt,
  )
  says (At k) = (λ r i. head-says r i k, λ r i h g e. strong-at r i h g e)
    where
      strong-at : (r : Head → Term) → IsInstance r → (h : Head) → is_rigid m h ≡ true → Some k ≡ Some h → Strong h (head_verdict x ns false k) (r k)
      strong-at r i h g e = let same : h ≡ k = cc in subst (λ q. Strong h (head_verdict x ns false q) (r q)) same (head-strong r i h g)
  says (App f a) = (
    λ r i. says-app f a (says f) (says a) r i (head_of f) refl,
    λ r i h g e. rigid-app f a (says f) (says a) r i h g e,
  )

  -- a rigid term's offence, with its head
  pub offence-strong : (r : Head → Term) → IsInstance r → (t : Term) (h : Head) → is_rigid m h ≡ true → head_of t ≡ Some h → Strong h (offence m x ns false t) (fill r t)
  offence-strong r i (Lam b) h g e = absurd (let z : None ≡ Some h = e in cc)
  offence-strong r i (At k) h g e = (says (At k)).1 r i h g e
  offence-strong r i (App f a) h g e = subst (λ k. Strong h (along m x ns false k (App f a)) (fill r (App f a))) (sym (ap (λ o. arguments m o (args_of f ++ a ∷ [])) e ∙ rigid-spine h g)) ((says (App f a)).1 r i h g e)
    where
      rigid-spine : (h : Head) → is_rigid m h ≡ true → arguments m (Some h) (args_of f ++ a ∷ []) ≡ of_rigid
      rigid-spine (Var v) g = ap (λ b. cond b of_rigid (of_flexible v (args_of f ++ a ∷ []) (pattern_of (args_of f ++ a ∷ [])))) g
      rigid-spine (Con c) g = refl
      rigid-spine _ g = refl
