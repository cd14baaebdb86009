-- What the offence says of a term.
use Rattle.std.proofs.Common.{◌≡◌, ℕ, suc, ◌+◌, ◌≤◌, ◌<◌, Bool, true, false, cond, ◌||◌, nat_eq, nat_lt, refl, subst, List, [], ◌∷◌, ◌++◌, length, length-append, arith, Option, Some, None}
use Rattle.std.specs.List.{list_any}
use Rattle.ref_terms.specs.terms.Term.{Term, Lam, At, App, Head, Con, Int, Str, Name, Bound, Var}
use Rattle.ref_terms.specs.terms.Occurs.{is_variable, occurs}
use Rattle.ref_terms.specs.unification.Spine.{args_of, head_of}
use Rattle.ref_terms.specs.unification.Pattern.{SpineName, spine_name, add_distinct, pattern_of}
use Rattle.ref_terms.specs.unification.Offence.{Verdict, fine, redex, scope, itself, foreign, dropped, or_later, Arguments, of_rigid, pattern_spine, other_spine, of_flexible, arguments, is_foreign, head_verdict, offence, along}
use Rattle.ref_terms.specs.ending.Fits.{FitsHead, Fits}
use Rattle.ref_terms.specs.ending.Measure.{Downward, Loose, fits-loose, or_none}

-- no variables below the arguments of a pattern spine
abbrev pub IsSpineName : Term → Type 0
IsSpineName t = (v : ℕ) → occurs v t ≡ false

-- arguments that are names
abbrev pub AllSpineNames : List Term → Type 0
AllSpineNames [] = Unit {0}
AllSpineNames (t ∷ ts) = IsSpineName t × AllSpineNames ts

spine-name-is : (t : Term) (k : SpineName) → spine_name t ≡ Some k → IsSpineName t
spine-name-is (At (Name n)) k e v = refl
spine-name-is (At (Bound n)) k e v = refl
spine-name-is (At (Con n)) k e v = refl
spine-name-is (At (Int n)) k e v = refl
spine-name-is (At (Str n)) k e v = refl
spine-name-is (At (Var n)) k e v = absurd (let z : None ≡ Some k = e in cc)
spine-name-is (Lam b) k e v = absurd (let z : None ≡ Some k = e in cc)
spine-name-is (App f a) k e v = absurd (let z : None ≡ Some k = e in cc)

pub pattern-names : (xs : List Term) (ks : List SpineName) → pattern_of xs ≡ Some ks → AllSpineNames xs
pattern-names [] ks e = tt
pattern-names (t ∷ ts) ks e = go (spine_name t) refl (pattern_of ts) refl (λ q d. pattern-names ts q d) e
  where
    go : (k : Option SpineName) → spine_name t ≡ k → (q : Option (List SpineName)) → pattern_of ts ≡ q → ((q : List SpineName) → pattern_of ts ≡ Some q → AllSpineNames ts) → add_distinct k q ≡ Some ks → IsSpineName t × AllSpineNames ts
    go (Some k) d (Some q) c i e = (spine-name-is t k d, i q c)
    go (Some k) d None c i e = absurd (let z : None ≡ Some ks = e in cc)
    go None d q c i e = absurd (let z : None ≡ Some ks = e in cc)

pub names-front : (xs ys : List Term) → AllSpineNames (xs ++ ys) → AllSpineNames xs
names-front [] ys w = tt
names-front (x ∷ xs) ys w = (w.0, names-front xs ys w.1)

pub names-last : (xs : List Term) (a : Term) → AllSpineNames (xs ++ a ∷ []) → IsSpineName a
names-last [] a w = w.0
names-last (x ∷ xs) a w = names-last xs a w.1

pub fits-head : (P : ℕ → ℕ → Type 0) (t : Term) (j v : ℕ) → head_of t ≡ Some (Var v) → Fits P j t → P v (length (args_of t) + j)
fits-head P (Lam b) j v e w = absurd (let z : None ≡ Some (Var v) = e in cc)
fits-head P (At h) j v e w =
    let same : h ≡ Var v = let z : Some h ≡ Some (Var v) = e in cc in
    let k : P v j = subst (λ q. FitsHead P j q) same w in
    let n : j ≡ 0 + j = omega arith in
    subst (P v) n k
fits-head P (App f a) j v e w =
    let k : P v (length (args_of f) + suc j) = fits-head P f (suc j) v e w.0 in
    let n : length (args_of f) + suc j ≡ length (args_of f ++ a ∷ []) + j = simp length-append (omega arith) in
    subst (P v) n k

module _ (P : ℕ → ℕ → Type 0) (down : Downward P) (m x : ℕ) (ns : List ℕ) where
  -- G is what holds where nothing offends
  abbrev pub Told : Bool → Type 0 → Verdict → Type 0
  Told l G fine = G
  Told l G (dropped y i n) = P y n × (i < n) × (nat_lt y m ≡ false) × (nat_eq x y ≡ false) × (l ≡ false)
  Told l G redex = Unit {0}
  Told l G scope = Unit {0}
  Told l G itself = Unit {0}
  Told l G foreign = Unit {0}

  told-both : (l : Bool) (F G H : Type 0) (v w : Verdict) → Told l F v → (F → Told l G w) → (F → G → H) → Told l H (or_later v w)
  told-both l F G H fine fine a b k = k a (b a)
  told-both l F G H fine (dropped y i n) a b k = b a
  told-both l F G H fine redex a b k = tt
  told-both l F G H fine scope a b k = tt
  told-both l F G H fine itself a b k = tt
  told-both l F G H fine foreign a b k = tt
  told-both l F G H (dropped y i n) w a b k = a
  told-both l F G H redex w a b k = tt
  told-both l F G H scope w a b k = tt
  told-both l F G H itself w a b k = tt
  told-both l F G H foreign w a b k = tt

  told-loose : (l : Bool) (G : Type 0) (v : Verdict) → Told true G v → Told l G v
  told-loose l G fine a = a
  told-loose l G (dropped y i n) a = absurd (let z : true ≡ false = a.4 in cc)
  told-loose l G redex a = tt
  told-loose l G scope a = tt
  told-loose l G itself a = tt
  told-loose l G foreign a = tt

  told-head : (l : Bool) (h : Head) → Told l (is_variable x h ≡ false) (head_verdict x ns l h)
  told-head l (Var v) = go l (nat_eq x v) refl
    where
      go : (l : Bool) (b : Bool) → nat_eq x v ≡ b → Told l (nat_eq x v ≡ false) (cond b (cond l scope itself) fine)
      go true true e = tt
      go false true e = tt
      go l false e = e
  told-head l (Name n) = go l (list_any (nat_eq n) ns)
    where
      go : (l b : Bool) → Told l (false ≡ false) (cond b fine (cond l scope foreign))
      go l true = refl
      go true false = tt
      go false false = tt
  told-head l (Con c) = refl
  told-head l _ = refl

  -- what is known of an application, or of a front of it, by how its arguments are looked at
  abbrev pub Knows : Arguments → Term → Type 0
  Knows of_rigid t = Loose P t
  Knows other_spine t = Loose P t
  Knows (pattern_spine v n) t = (head_of t ≡ Some (Var v)) × P v n × (nat_lt v m ≡ false) × (length (args_of t) ≤ n) × AllSpineNames (args_of t)

  knows-front : (k : Arguments) (f a : Term) → Knows k (App f a) → Knows k f
  knows-front of_rigid f a w = w.0
  knows-front other_spine f a w = w.0
  knows-front (pattern_spine v n) f a w =
      let e : length (args_of f ++ a ∷ []) ≡ length (args_of f) + 1 = simp length-append in
      let q : length (args_of f ++ a ∷ []) ≤ n = w.3 in
      (w.0, w.1, w.2, omega arith, names-front (args_of f) (a ∷ []) w.4)

  head-absent : (f : Term) (v : ℕ) → head_of f ≡ Some (Var v) → occurs x f ≡ false → nat_eq x v ≡ false
  head-absent (Lam b) v e o = absurd (let z : None ≡ Some (Var v) = e in cc)
  head-absent (At h) v e o = let same : h ≡ Var v = let z : Some h ≡ Some (Var v) = e in cc in subst (λ q. is_variable x q ≡ false) same o
  head-absent (App f a) v e o = head-absent f v e (left (occurs x f) (occurs x a) o)
    where
      left : (a b : Bool) → (a || b) ≡ false → a ≡ false
      left false b e = refl
      left true b e = e

  told-app : (l : Bool) (k : Arguments) (f a : Term) → Knows k (App f a) → Told l (occurs x f ≡ false) (along m x ns l k f)
      → ((l : Bool) → Fits P 0 a → Told l (occurs x a ≡ false) (offence m x ns l a))
      → Told l (occurs x (App f a) ≡ false) (along m x ns l k (App f a))
  told-app l of_rigid f a w i j = told-both l (occurs x f ≡ false) (occurs x a ≡ false) (occurs x (App f a) ≡ false) (along m x ns l of_rigid f) (offence m x ns l a) i (λ d. j l w.1) (λ d e. or_none _ _ d e)
  told-app l other_spine f a w i j = told-both l (occurs x f ≡ false) (occurs x a ≡ false) (occurs x (App f a) ≡ false) (along m x ns l other_spine f) (offence m x ns true a) i (λ d. told-loose l (occurs x a ≡ false) (offence m x ns true a) (j true w.1)) (λ d e. or_none _ _ d e)
  told-app l (pattern_spine v n) f a w i j = told-both l (occurs x f ≡ false) (occurs x a ≡ false) (occurs x (App f a) ≡ false) (along m x ns l (pattern_spine v n) f) (cond (is_foreign ns a) (cond l scope (dropped v (length (args_of f)) n)) fine) i (λ d. go l (is_foreign ns a) d) (λ d e. or_none _ _ d e)
    where
      position : length (args_of f) < n
      position = let e : length (args_of f ++ a ∷ []) ≡ length (args_of f) + 1 = simp length-append in let q : length (args_of f ++ a ∷ []) ≤ n = w.3 in omega arith

      go : (l b : Bool) → occurs x f ≡ false → Told l (occurs x a ≡ false) (cond b (cond l scope (dropped v (length (args_of f)) n)) fine)
      go true true d = tt
      go false true d = (w.1, position, w.2, head-absent f v w.0 d, refl)
      go l false d = names-last (args_of f) a w.4 x

  spine-knows : (f a : Term) → Fits P 0 (App f a) → (o : Option Head) → head_of f ≡ o → Knows (arguments m o (args_of f ++ a ∷ [])) (App f a)
  spine-knows f a w (Some (Var v)) e = go (nat_lt v m) refl
    where
      all : Loose P (App f a)
      all = fits-loose P down (App f a) 0 w

      deep : (q : Option (List SpineName)) → pattern_of (args_of f ++ a ∷ []) ≡ q → nat_lt v m ≡ false → Knows (of_flexible v (args_of f ++ a ∷ []) q) (App f a)
      deep None d k = all
      deep (Some ks) d k =
          let c : P v (length (args_of f ++ a ∷ []) + 0) = fits-head P (App f a) 0 v e w in
          let z : length (args_of f ++ a ∷ []) + 0 ≡ length (args_of f ++ a ∷ []) = omega arith in
          (e, subst (P v) z c, k, omega arith, pattern-names (args_of f ++ a ∷ []) ks d)

      go : (b : Bool) → nat_lt v m ≡ b → Knows (cond b of_rigid (of_flexible v (args_of f ++ a ∷ []) (pattern_of (args_of f ++ a ∷ [])))) (App f a)
      go true d = all
      go false d = deep (pattern_of (args_of f ++ a ∷ [])) refl d
  spine-knows f a w (Some (Con c)) e = fits-loose P down (App f a) 0 w
  spine-knows f a w (Some _) e = fits-loose P down (App f a) 0 w
  spine-knows f a w None e = fits-loose P down (App f a) 0 w

  -- both looks at a term
  abbrev pub ToldOf : Term → Type 0
  ToldOf t = ((l : Bool) → Fits P 0 t → Told l (occurs x t ≡ false) (offence m x ns l t)) × ((l : Bool) (k : Arguments) → Knows k t → Told l (occurs x t ≡ false) (along m x ns l k t))

  pub told : (t : Term) → ToldOf t
  told (Lam b) = (λ l w. (told b).0 l w, λ l k w. tt)
  told (At h) = (λ l w. told-head l h, λ l k w. told-head l h)
  told (App f a) = (
    λ l w. let k = spine-knows f a w (head_of f) refl in told-app l (arguments m (head_of f) (args_of f ++ a ∷ [])) f a k ((told f).1 l (arguments m (head_of f) (args_of f ++ a ∷ [])) (knows-front (arguments m (head_of f) (args_of f ++ a ∷ [])) f a k)) (told a).0,
    λ l k w. told-app l k f a w ((told f).1 l k (knows-front k f a w)) (told a).0,
  )

  pub told-along : (t : Term) (l : Bool) (k : Arguments) → Knows k t → Told l (occurs x t ≡ false) (along m x ns l k t)
  told-along t = (told t).1

  -- nothing is dropped below a spine that is no pattern
  abbrev pub KeepsAll : Verdict → Type 0
  KeepsAll (dropped y i n) = ⊥
  KeepsAll fine = Unit {0}
  KeepsAll _ = Unit {0}

  keeps-later : (v w : Verdict) → KeepsAll v → KeepsAll w → KeepsAll (or_later v w)
  keeps-later fine w a b = b
  keeps-later (dropped y i n) w a b = a
  keeps-later redex w a b = tt
  keeps-later scope w a b = tt
  keeps-later itself w a b = tt
  keeps-later foreign w a b = tt

  told-keeps : (G : Type 0) (v : Verdict) → Told true G v → KeepsAll v
  told-keeps G (dropped y i n) a = absurd (let z : true ≡ false = a.4 in cc)
  told-keeps G fine a = tt
  told-keeps G redex a = tt
  told-keeps G scope a = tt
  told-keeps G itself a = tt
  told-keeps G foreign a = tt

  head-keeps : (l : Bool) (h : Head) → KeepsAll (head_verdict x ns l h)
  head-keeps l (Var v) = go l (nat_eq x v)
    where
      go : (l b : Bool) → KeepsAll (cond b (cond l scope itself) fine)
      go true true = tt
      go false true = tt
      go l false = tt
  head-keeps l (Name n) = go l (list_any (nat_eq n) ns)
    where
      go : (l b : Bool) → KeepsAll (cond b fine (cond l scope foreign))
      go l true = tt
      go true false = tt
      go false false = tt
  head-keeps l (Con c) = tt
  head-keeps l _ = tt

  pub other-keeps : (t : Term) (l : Bool) → Loose P t → KeepsAll (along m x ns l other_spine t)
  other-keeps (Lam b) l w = tt
  other-keeps (At h) l w = head-keeps l h
  other-keeps (App f a) l w = keeps-later (along m x ns l other_spine f) (offence m x ns true a) (other-keeps f l w.0) (told-keeps (occurs x a ≡ false) (offence m x ns true a) ((told a).0 true w.1))
