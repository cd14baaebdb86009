-- What the offence says of an instance: names that stay, and positions that no solution uses.
use Rattle.std.proofs.Common.{◌≡◌, ℕ, zero, suc, ◌+◌, ◌<◌, Bool, true, false, cond, ◌||◌, not, nat_eq, nat_lt, refl, sym, ap, ap₂, ◌∙◌, subst, List, [], ◌∷◌, ◌++◌, map, length, length-append, arith, eqb-true, Option, Some, None, IfSome}
use mathlib.Core.Path.{fun_ext}
use Rattle.std.specs.List.{list_any}
use Rattle.ref_terms.specs.terms.Term.{Term, Lam, At, App, Head, Con, Int, Str, Name, Bound, Var}
use Rattle.ref_terms.specs.terms.Index.{ren, next, shift, sub}
use Rattle.ref_terms.specs.terms.Eta.{eta, lam, lam_of}
use Rattle.ref_terms.specs.terms.Apply.{apply, below, fill}
use Rattle.ref_terms.specs.terms.Instance.{valued, inst_all}
use Rattle.ref_terms.specs.lemmas.EtaLemmas.{eta-some}
use Rattle.ref_terms.specs.lemmas.FillLemmas.{built-ren}
use Rattle.ref_terms.specs.lemmas.ComposeLemmas.{ren-apply}
use Rattle.ref_terms.specs.unification.Spine.{args_of, head_of, apply_all}
use Rattle.ref_terms.specs.unification.Pattern.{SpineName, of_name, of_bound, spine_name, same_name, add_distinct, pattern_of}
use Rattle.ref_terms.specs.unification.Closing.{names_below}
use Rattle.ref_terms.specs.unification.Offence.{Verdict, fine, redex, scope, itself, foreign, dropped, or_later, Arguments, of_rigid, pattern_spine, other_spine, of_flexible, arguments, is_foreign, head_verdict, offence, along}
use Rattle.ref_terms.specs.unification.Positions.{all_but}
use Rattle.ref_terms.specs.terms.Occurs.{has_name}
use Rattle.ref_terms.specs.lemmas.NameLemmas.{has_name-ren, or_left, or_right, or_both}
use Rattle.ref_terms.specs.unification.Unifier.{IsChoice}
use Rattle.std.proofs.lemmas.Bool.Decides.{Decides-ltb}
use Rattle.ref_terms.specs.ending.Rules.{Frozen}
use Rattle.ref_terms.specs.ending.Bounds.{mem}
use Rattle.ref_terms.specs.ending.Fits.{Fits, before}
use Rattle.ref_terms.specs.ending.Measure.{Downward, fits-loose}
use Rattle.ref_terms.specs.ending.OffenceLemmas.{KeepsAll, other-keeps}
use Rattle.ref_terms.proofs.unification.ValueLemmas.{names, listed, body, unused, UsesOnly, body-applied}
use Rattle.ref_terms.proofs.unification.KeptLemmas.{term_of, terms_of, spine-ready, but-uses}

-- pattern spines are lists of names
spine_name-term : (t : Term) (k : SpineName) → spine_name t ≡ Some k → t ≡ term_of k
spine_name-term (At (Name n)) k e = let z : Some (of_name n) ≡ Some k = e in let d : of_name n ≡ k = cc in ap term_of d
spine_name-term (At (Bound n)) k e = let z : Some (of_bound n) ≡ Some k = e in let d : of_bound n ≡ k = cc in ap term_of d
spine_name-term (At (Con n)) k e = absurd (let z : None ≡ Some k = e in cc)
spine_name-term (At (Int n)) k e = absurd (let z : None ≡ Some k = e in cc)
spine_name-term (At (Str n)) k e = absurd (let z : None ≡ Some k = e in cc)
spine_name-term (At (Var n)) k e = absurd (let z : None ≡ Some k = e in cc)
spine_name-term (Lam b) k e = absurd (let z : None ≡ Some k = e in cc)
spine_name-term (App f a) k e = absurd (let z : None ≡ Some k = e in cc)

-- names of a spine, each once
abbrev pub DistinctNames : List SpineName → Type 0
DistinctNames [] = Unit {0}
DistinctNames (k ∷ ks) = (list_any (same_name k) ks ≡ false) × DistinctNames ks

pub pattern-terms : (xs : List Term) (ks : List SpineName) → pattern_of xs ≡ Some ks → (xs ≡ terms_of ks) × DistinctNames ks
pattern-terms [] ks e = let z : Some [] ≡ Some ks = e in let d : [] ≡ ks = cc in subst (λ (q : List SpineName). ([] ≡ terms_of q) × DistinctNames q) d (refl, tt)
pattern-terms (t ∷ ts) ks e = go (spine_name t) refl (pattern_of ts) refl (λ q d. pattern-terms ts q d) e
  where
    deep : (k : SpineName) → spine_name t ≡ Some k → (q : List SpineName) → (ts ≡ terms_of q) × DistinctNames q → (b : Bool) → list_any (same_name k) q ≡ b → cond b None (Some (k ∷ q)) ≡ Some ks → (t ∷ ts ≡ terms_of ks) × DistinctNames ks
    deep k d q i true c e = absurd (let z : None ≡ Some ks = e in cc)
    deep k d q i false c e = let z : Some (k ∷ q) ≡ Some ks = e in let s : k ∷ q ≡ ks = cc in subst (λ (q : List SpineName). (t ∷ ts ≡ terms_of q) × DistinctNames q) s (ap₂ (λ (y : Term) (ys : List Term). y ∷ ys) (spine_name-term t k d) i.0, (c, i.1))

    go : (k : Option SpineName) → spine_name t ≡ k → (q : Option (List SpineName)) → pattern_of ts ≡ q → ((q : List SpineName) → pattern_of ts ≡ Some q → (ts ≡ terms_of q) × DistinctNames q) → add_distinct k q ≡ Some ks → (t ∷ ts ≡ terms_of ks) × DistinctNames ks
    go (Some k) d (Some q) c i e = deep k d q (i q c) (list_any (same_name k) q) refl e
    go (Some k) d None c i e = absurd (let z : None ≡ Some ks = e in cc)
    go None d q c i e = absurd (let z : None ≡ Some ks = e in cc)

-- the instance of an application
applied-last : (g : Term → Term) (xs : List Term) (t a : Term) → apply_all t (map g (xs ++ a ∷ [])) ≡ apply (apply_all t (map g xs)) (g a)
applied-last g [] t a = refl
applied-last g (x ∷ xs) t a = applied-last g xs (apply t (g x)) a

pub inst-spine : (u : ℕ → Term) (t : Term) (h : Head) → head_of t ≡ Some h → inst_all u t ≡ apply_all (valued u h) (map (inst_all u) (args_of t))
inst-spine u (Lam b) h e = absurd (let z : None ≡ Some h = e in cc)
inst-spine u (At k) h e = let same : k ≡ h = let z : Some k ≡ Some h = e in cc in ap (valued u) same
inst-spine u (App f a) h e = ap (λ z. apply z (inst_all u a)) (inst-spine u f h e) ∙ sym (applied-last (inst_all u) (args_of f) (valued u h) a)

inst-spine_name : (u : ℕ → Term) (k : SpineName) → inst_all u (term_of k) ≡ term_of k
inst-spine_name u (of_name n) = refl
inst-spine_name u (of_bound n) = refl

inst-names : (u : ℕ → Term) (ks : List SpineName) → map (inst_all u) (terms_of ks) ≡ terms_of ks
inst-names u [] = refl
inst-names u (k ∷ ks) = ap₂ (λ (y : Term) (ys : List Term). y ∷ ys) (inst-spine_name u k) (inst-names u ks)

pub inst-pattern : (u : ℕ → Term) (t : Term) (v : ℕ) (ks : List SpineName) → head_of t ≡ Some (Var v) → args_of t ≡ terms_of ks → inst_all u t ≡ apply_all (u v) (terms_of ks)
inst-pattern u t v ks e d = inst-spine u t (Var v) e ∙ ap (apply_all (u v)) (ap (map (inst_all u)) d ∙ inst-names u ks)

any-mem : (n : ℕ) (ns : List ℕ) → list_any (nat_eq n) ns ≡ mem n ns
any-mem n [] = refl
any-mem n (m ∷ ms) = ap (λ r. nat_eq n m || r) (any-mem n ms)

-- all names of a term are among these
abbrev pub Scoped : List ℕ → Term → Type 0
Scoped ns t = (a : ℕ) → mem a ns ≡ false → has_name a t ≡ false

foreign-is : (ns : List ℕ) (a : Term) → is_foreign ns a ≡ true → (k : ℕ) × (a ≡ At (Name k)) × (mem k ns ≡ false)
foreign-is ns (At (Name n)) e = (n, refl, go (list_any (nat_eq n) ns) refl e)
  where
    go : (b : Bool) → list_any (nat_eq n) ns ≡ b → not b ≡ true → mem n ns ≡ false
    go true d e = absurd (let z : false ≡ true = e in cc)
    go false d e = sym (any-mem n ns) ∙ d
foreign-is ns (At (Con n)) e = absurd (let z : false ≡ true = e in cc)
foreign-is ns (At (Int n)) e = absurd (let z : false ≡ true = e in cc)
foreign-is ns (At (Str n)) e = absurd (let z : false ≡ true = e in cc)
foreign-is ns (At (Bound n)) e = absurd (let z : false ≡ true = e in cc)
foreign-is ns (At (Var n)) e = absurd (let z : false ≡ true = e in cc)
foreign-is ns (Lam b) e = absurd (let z : false ≡ true = e in cc)
foreign-is ns (App f a) e = absurd (let z : false ≡ true = e in cc)

home-is : (ns : List ℕ) (k : SpineName) → is_foreign ns (term_of k) ≡ false → Scoped ns (term_of k)
home-is ns (of_bound i) e a m = refl
home-is ns (of_name n) e a m = go (nat_eq a n) refl
  where
    inside : (b : Bool) → not b ≡ false → b ≡ true
    inside true d = refl
    inside false d = sym d

    go : (b : Bool) → nat_eq a n ≡ b → b ≡ false
    go true d = let same : a ≡ n = eqb-true _ _ d in let k : mem a ns ≡ true = subst (λ z. mem z ns ≡ true) (sym same) (sym (any-mem n ns) ∙ inside (list_any (nat_eq n) ns) e) in absurd (let z : true ≡ false = sym k ∙ m in cc)
    go false d = refl

-- where nothing offends, all names are those of the spine
abbrev pub Tells : Type 0 → Verdict → Type 0
Tells G fine = G
Tells G (dropped y i n) = Unit {0}
Tells G redex = Unit {0}
Tells G scope = Unit {0}
Tells G itself = Unit {0}
Tells G foreign = Unit {0}

tells-both : (F G H : Type 0) (v w : Verdict) → Tells F v → Tells G w → (F → G → H) → Tells H (or_later v w)
tells-both F G H fine fine a b k = k a b
tells-both F G H fine (dropped y i n) a b k = tt
tells-both F G H fine redex a b k = tt
tells-both F G H fine scope a b k = tt
tells-both F G H fine itself a b k = tt
tells-both F G H fine foreign a b k = tt
tells-both F G H (dropped y i n) w a b k = tt
tells-both F G H redex w a b k = tt
tells-both F G H scope w a b k = tt
tells-both F G H itself w a b k = tt
tells-both F G H foreign w a b k = tt

-- arguments that are names
abbrev pub AreSpineNames : List Term → Type 0
AreSpineNames [] = Unit {0}
AreSpineNames (x ∷ xs) = ((k : SpineName) × (x ≡ term_of k)) × AreSpineNames xs

spine_name_list : (ks : List SpineName) → AreSpineNames (terms_of ks)
spine_name_list [] = tt
spine_name_list (k ∷ ks) = ((k, refl), spine_name_list ks)

list-front : (xs ys : List Term) → AreSpineNames (xs ++ ys) → AreSpineNames xs
list-front [] ys w = tt
list-front (x ∷ xs) ys w = (w.0, list-front xs ys w.1)

list-last : (xs : List Term) (a : Term) → AreSpineNames (xs ++ a ∷ []) → (k : SpineName) × (a ≡ term_of k)
list-last [] a w = w.0
list-last (x ∷ xs) a w = list-last xs a w.1

module _ (m x : ℕ) (ns : List ℕ) where
  scoped-head : (l : Bool) (h : Head) → Tells (Scoped ns (At h)) (head_verdict x ns l h)
  scoped-head l (Var v) = go l (nat_eq x v)
    where
      go : (l b : Bool) → Tells (Scoped ns (At (Var v))) (cond b (cond l scope itself) fine)
      go true true = tt
      go false true = tt
      go l false = λ a m. refl
  scoped-head l (Name n) = go l (list_any (nat_eq n) ns) refl
    where
      go : (l b : Bool) → list_any (nat_eq n) ns ≡ b → Tells (Scoped ns (At (Name n))) (cond b fine (cond l scope foreign))
      go l true e = home-is ns (of_name n) (ap not e)
      go true false e = tt
      go false false e = tt
  scoped-head l (Con c) = λ a m. refl
  scoped-head l _ = λ a m. refl

  -- what is known of the arguments that are looked at
  abbrev pub Looks : Arguments → Term → Type 0
  Looks of_rigid t = Unit {0}
  Looks other_spine t = Unit {0}
  Looks (pattern_spine v n) t = AreSpineNames (args_of t)

  looks-front : (k : Arguments) (f a : Term) → Looks k (App f a) → Looks k f
  looks-front of_rigid f a w = tt
  looks-front other_spine f a w = tt
  looks-front (pattern_spine v n) f a w = list-front (args_of f) (a ∷ []) w

  spine-looks : (f a : Term) (o : Option Head) → Looks (arguments m o (args_of f ++ a ∷ [])) (App f a)
  spine-looks f a (Some (Var v)) = go (nat_lt v m)
    where
      deep : (q : Option (List SpineName)) → pattern_of (args_of f ++ a ∷ []) ≡ q → Looks (of_flexible v (args_of f ++ a ∷ []) q) (App f a)
      deep None e = tt
      deep (Some ks) e = subst AreSpineNames (sym (pattern-terms (args_of f ++ a ∷ []) ks e).0) (spine_name_list ks)

      go : (b : Bool) → Looks (cond b of_rigid (of_flexible v (args_of f ++ a ∷ []) (pattern_of (args_of f ++ a ∷ [])))) (App f a)
      go true = tt
      go false = deep (pattern_of (args_of f ++ a ∷ [])) refl
  spine-looks f a (Some (Con c)) = tt
  spine-looks f a (Some _) = tt
  spine-looks f a None = tt

  scoped-app : (l : Bool) (k : Arguments) (f a : Term) → Looks k (App f a) → Tells (Scoped ns f) (along m x ns l k f) → ((l : Bool) → Tells (Scoped ns a) (offence m x ns l a)) → Tells (Scoped ns (App f a)) (along m x ns l k (App f a))
  scoped-app l of_rigid f a w i j = tells-both (Scoped ns f) (Scoped ns a) (Scoped ns (App f a)) (along m x ns l of_rigid f) (offence m x ns l a) i (j l) (λ p q a m. or_both _ _ (p a m) (q a m))
  scoped-app l other_spine f a w i j = tells-both (Scoped ns f) (Scoped ns a) (Scoped ns (App f a)) (along m x ns l other_spine f) (offence m x ns true a) i (j true) (λ p q a m. or_both _ _ (p a m) (q a m))
  scoped-app l (pattern_spine v n) f a w i j = tells-both (Scoped ns f) (Scoped ns a) (Scoped ns (App f a)) (along m x ns l (pattern_spine v n) f) (cond (is_foreign ns a) (cond l scope (dropped v (length (args_of f)) n)) fine) i (go l (is_foreign ns a) refl) (λ p q a m. or_both _ _ (p a m) (q a m))
    where
      go : (l b : Bool) → is_foreign ns a ≡ b → Tells (Scoped ns a) (cond b (cond l scope (dropped v (length (args_of f)) n)) fine)
      go true true e = tt
      go false true e = tt
      go l false e = let k = list-last (args_of f) a w in subst (Scoped ns) (sym k.1) (home-is ns k.0 (ap (is_foreign ns) (sym k.1) ∙ e))

  -- both looks at a term
  abbrev ScopedOf : Term → Type 0
  ScopedOf t = ((l : Bool) → Tells (Scoped ns t) (offence m x ns l t)) × ((l : Bool) (k : Arguments) → Looks k t → Tells (Scoped ns t) (along m x ns l k t))

  scoped : (t : Term) → ScopedOf t
  scoped (Lam b) = (λ l. (scoped b).0 l, λ l k w. tt)
  scoped (At h) = (λ l. scoped-head l h, λ l k w. scoped-head l h)
  scoped (App f a) = (
    λ l. let k = spine-looks f a (head_of f) in scoped-app l (arguments m (head_of f) (args_of f ++ a ∷ [])) f a k ((scoped f).1 l (arguments m (head_of f) (args_of f ++ a ∷ [])) (looks-front (arguments m (head_of f) (args_of f ++ a ∷ [])) f a k)) (scoped a).0,
    λ l k w. scoped-app l k f a w ((scoped f).1 l k (looks-front k f a w)) (scoped a).0,
  )

  pub fine-scoped : (t : Term) (l : Bool) → Tells (Scoped ns t) (offence m x ns l t)
  fine-scoped t l = (scoped t).0 l

-- a dropped position is used by no solution
abbrev pub Says : (ℕ → ℕ → ℕ → Type 0) → Verdict → Type 0
Says G (dropped y i n) = G y i n
Says G fine = Unit {0}
Says G redex = Unit {0}
Says G scope = Unit {0}
Says G itself = Unit {0}
Says G foreign = Unit {0}

says-later : (G : ℕ → ℕ → ℕ → Type 0) (v w : Verdict) → Says G v → Says G w → Says G (or_later v w)
says-later G fine w a b = b
says-later G (dropped y i n) w a b = a
says-later G redex w a b = tt
says-later G scope w a b = tt
says-later G itself w a b = tt
says-later G foreign w a b = tt

says-map : (G H : ℕ → ℕ → ℕ → Type 0) → ((y i n : ℕ) → G y i n → H y i n) → (v : Verdict) → Says G v → Says H v
says-map G H k (dropped y i n) a = k y i n a
says-map G H k fine a = tt
says-map G H k redex a = tt
says-map G H k scope a = tt
says-map G H k itself a = tt
says-map G H k foreign a = tt

-- under an abstraction
abbrev pub lifted : (ℕ → Term) → ℕ → Term
lifted u v = shift (u v)

below-valued : (u : ℕ → Term) (h : Head) → below (valued u) h ≡ valued (lifted u) h
below-valued u (Bound zero) = refl
below-valued u (Bound (suc n)) = refl
below-valued u (Con c) = refl
below-valued u _ = refl

lifted-good : (m : ℕ) (u : ℕ → Term) → IsChoice m u → IsChoice m (lifted u)
lifted-good m u g =
    let s = g.substitution in
    record {
      substitution = record { built = λ v. built-ren next (u v) (s.built v); closed = λ v f. ap (ren f) (s.closed v next) ∙ s.closed v f ∙ sym (s.closed v next); nameless = λ v x. has_name-ren x next (u v) ∙ s.nameless v x };
      frozen = λ v l. ap shift (g.frozen v l);
    }

unlam : (x : ℕ) (b : Term) → has_name x (lam b) ≡ false → has_name x b ≡ false
unlam x b = go (eta b) (eta-some b)
  where
    go : (o : Option Term) → IfSome o (λ u. b ≡ App (shift u) (At (Bound zero))) → has_name x (lam_of o b) ≡ false → has_name x b ≡ false
    go None h e = e
    go (Some u) h e = ap (has_name x) h ∙ or_both _ _ (has_name-ren x next u ∙ e) refl

scoped-under : (ns : List ℕ) (u : ℕ → Term) (b : Term) → Scoped ns (inst_all u (Lam b)) → Scoped ns (inst_all (lifted u) b)
scoped-under ns u b w a m = ap (has_name a) (ap (λ r. fill r b) (sym (fun_ext (below-valued u)))) ∙ unlam a (fill (below (valued u)) b) (w a m)

-- the value of a variable doesn't use the position
abbrev pub Spares : (ℕ → Term) → ℕ → ℕ → ℕ → Type 0
Spares u y i n = UsesOnly n (all_but i n) (u y)

ren-applied : (ns : List ℕ) (t : Term) → ren next (apply_all t (names ns)) ≡ apply_all (ren next t) (names ns)
ren-applied [] t = refl
ren-applied (n ∷ ns) t = ren-applied ns (apply t (At (Name n))) ∙ ap (λ z. apply_all z (names ns)) (ren-apply next t (At (Name n)))

spares-under : (u : ℕ → Term) (y i n : ℕ) → Spares (lifted u) y i n → Spares u y i n
spares-under u y i n w x m = sym (has_name-ren x next (apply_all (u y) (names (names_below n)))) ∙ ap (has_name x) (ren-applied (names_below n) (u y)) ∙ w x m

-- below a rigid head nothing is contracted
abbrev pub NotLam : Term → Type 0
NotLam (Lam b) = ⊥
NotLam (At h) = Unit {0}
NotLam (App f a) = Unit {0}

pub apply-plain : (f a : Term) → NotLam f → apply f a ≡ App f a
apply-plain (Lam b) a n = absurd n
apply-plain (At h) a n = refl
apply-plain (App f b) a n = refl

pub rigid-plain : (m : ℕ) (u : ℕ → Term) → IsChoice m u → (h : Head) → Frozen m h → NotLam (valued u h)
rigid-plain m u g (Var v) r = subst NotLam (sym (g.frozen v ((Decides-ltb v m).0 r))) tt
rigid-plain m u g (Con c) r = tt
rigid-plain m u g _ r = tt

inst-front : (m : ℕ) (u : ℕ → Term) → IsChoice m u → (t : Term) (h : Head) → head_of t ≡ Some h → Frozen m h → NotLam (inst_all u t)
inst-front m u g (Lam b) h e r = absurd (let z : None ≡ Some h = e in cc)
inst-front m u g (At k) h e r = subst (λ q. NotLam (valued u q)) (let z : Some h ≡ Some k = sym e in let d : h ≡ k = cc in d) (rigid-plain m u g h r)
inst-front m u g (App f a) h e r = subst NotLam (sym (apply-plain (inst_all u f) (inst_all u a) (inst-front m u g f h e r))) tt

-- what is known where a position of a pattern spine is dropped
abbrev pub ForeignAt : List ℕ → ℕ → ℕ → Term → ℕ → ℕ → ℕ → Type 0
ForeignAt ns v n t y i k = (v ≡ y) × (n ≡ k) × (i < length (args_of t)) × ((a : ℕ) × (listed (args_of t) i ≡ At (Name a)) × (mem a ns ≡ false))

listed-front : (xs ys : List Term) (i : ℕ) → i < length xs → listed (xs ++ ys) i ≡ listed xs i
listed-front [] ys i l = absurd (omega arith)
listed-front (x ∷ xs) ys zero l = refl
listed-front (x ∷ xs) ys (suc i) l = listed-front xs ys i (omega arith)

listed-last : (xs : List Term) (a : Term) → listed (xs ++ a ∷ []) (length xs) ≡ a
listed-last [] a = refl
listed-last (x ∷ xs) a = listed-last xs a

-- no bound on arguments
abbrev Always : ℕ → ℕ → Type 0
Always v j = Unit {0}

always-down : Downward Always
always-down v j i l w = tt

always-fits : (t : Term) (j : ℕ) → Fits Always j t
always-fits (Lam b) j = always-fits b (before j)
always-fits (At (Var v)) j = tt
always-fits (At (Con c)) j = tt
always-fits (At _) j = tt
always-fits (App f a) j = (always-fits f (suc j), always-fits a 0)

module _ (m x : ℕ) (ns : List ℕ) where
  head-says : (G : ℕ → ℕ → ℕ → Type 0) (l : Bool) (h : Head) → Says G (head_verdict x ns l h)
  head-says G l (Var v) = go l (nat_eq x v)
    where
      go : (l b : Bool) → Says G (cond b (cond l scope itself) fine)
      go true true = tt
      go false true = tt
      go l false = tt
  head-says G l (Name n) = go l (list_any (nat_eq n) ns)
    where
      go : (l b : Bool) → Says G (cond b fine (cond l scope foreign))
      go l true = tt
      go true false = tt
      go false false = tt
  head-says G l (Con c) = tt
  head-says G l _ = tt

  pattern-says : (v n : ℕ) (l : Bool) (t : Term) → Says (ForeignAt ns v n t) (along m x ns l (pattern_spine v n) t)
  pattern-says v n l (Lam b) = tt
  pattern-says v n l (At h) = head-says (ForeignAt ns v n (At h)) l h
  pattern-says v n l (App f a) = says-later (ForeignAt ns v n (App f a)) (along m x ns l (pattern_spine v n) f) (cond (is_foreign ns a) (cond l scope (dropped v (length (args_of f)) n)) fine)
      (says-map (ForeignAt ns v n f) (ForeignAt ns v n (App f a)) longer (along m x ns l (pattern_spine v n) f) (pattern-says v n l f))
      (go l (is_foreign ns a) refl)
    where
      size : length (args_of f ++ a ∷ []) ≡ length (args_of f) + 1
      size = simp length-append

      longer : (y i k : ℕ) → ForeignAt ns v n f y i k → ForeignAt ns v n (App f a) y i k
      longer y i k w = let s : length (args_of f ++ a ∷ []) ≡ length (args_of f) + 1 = size in let p : i < length (args_of f) = w.2 in (w.0, w.1, omega arith, (w.3.0, listed-front (args_of f) (a ∷ []) i p ∙ w.3.1, w.3.2))

      go : (l b : Bool) → is_foreign ns a ≡ b → Says (ForeignAt ns v n (App f a)) (cond b (cond l scope (dropped v (length (args_of f)) n)) fine)
      go true true e = tt
      go false true e = let k = foreign-is ns a e in let s : length (args_of f ++ a ∷ []) ≡ length (args_of f) + 1 = size in (refl, refl, omega arith, (k.0, listed-last (args_of f) a ∙ k.1, k.2))
      go l false e = tt

  no-head : (l : Bool) (k : Arguments) (t : Term) → head_of t ≡ None → along m x ns l k t ≡ redex
  no-head l k (Lam b) e = refl
  no-head l k (At h) e = absurd (let z : Some h ≡ None = e in cc)
  no-head l of_rigid (App f a) e = ap (λ v. or_later v (offence m x ns l a)) (no-head l of_rigid f e)
  no-head l other_spine (App f a) e = ap (λ v. or_later v (offence m x ns true a)) (no-head l other_spine f e)
  no-head l (pattern_spine v n) (App f a) e = ap (λ w. or_later w (cond (is_foreign ns a) (cond l scope (dropped v (length (args_of f)) n)) fine)) (no-head l (pattern_spine v n) f e)

  keeps-says : (G : ℕ → ℕ → ℕ → Type 0) (v : Verdict) → KeepsAll Always always-down m x ns v → Says G v
  keeps-says G (dropped y i n) a = absurd a
  keeps-says G fine a = tt
  keeps-says G redex a = tt
  keeps-says G scope a = tt
  keeps-says G itself a = tt
  keeps-says G foreign a = tt

  other_spine-says : (G : ℕ → ℕ → ℕ → Type 0) (l : Bool) (t : Term) → Says G (along m x ns l other_spine t)
  other_spine-says G l t = keeps-says G (along m x ns l other_spine t) (other-keeps Always always-down m x ns t l (fits-loose Always always-down t 0 (always-fits t 0)))

  -- the instance at a pattern spine
  pattern-spares : (u : ℕ → Term) → IsChoice m u → (v : ℕ) (t : Term) → head_of t ≡ Some (Var v) → (ks : List SpineName) → args_of t ≡ terms_of ks → Scoped ns (inst_all u t)
      → (y i n : ℕ) → ForeignAt ns v (length (args_of t)) t y i n → Spares u y i n
  pattern-spares u s v t e ks d w y i n q =
      let a : ℕ = q.3.0 in
      let len : length (terms_of ks) ≡ n = sym (ap length d) ∙ q.1 in
      let whole : sub (listed (terms_of ks)) (body n (u v)) ≡ inst_all u t = body-applied n (terms_of ks) len (spine-ready ks) (u v) ∙ sym (inst-pattern u t v ks e d) in
      let gone : has_name q.3.0 (sub (listed (terms_of ks)) (body n (u v))) ≡ false = ap (has_name q.3.0) whole ∙ w q.3.0 q.3.2 in
      let at : listed (terms_of ks) i ≡ At (Name q.3.0) = sym (ap (λ xs. listed xs i) d) ∙ q.3.1 in
      subst (λ z. Spares u z i n) q.0 (but-uses i n (u v) (s.substitution.nameless v) (unused q.3.0 (listed (terms_of ks)) i (body n (u v)) at gone))

  -- both looks at a term
  abbrev SparedOf : Term → Type 0
  SparedOf t = ((u : ℕ → Term) (l : Bool) → IsChoice m u → Scoped ns (inst_all u t) → Says (Spares u) (offence m x ns l t)) × ((u : ℕ → Term) (l : Bool) (h : Head) → IsChoice m u → head_of t ≡ Some h → Frozen m h → Scoped ns (inst_all u t) → Says (Spares u) (along m x ns l of_rigid t))

  spared-front : (u : ℕ → Term) (l : Bool) (f a : Term) (h : Head) → IsChoice m u → head_of f ≡ Some h → Frozen m h → Scoped ns (inst_all u (App f a)) → (Scoped ns (inst_all u f) → Says (Spares u) (along m x ns l of_rigid f)) → (Scoped ns (inst_all u a) → Says (Spares u) (offence m x ns l a)) → Says (Spares u) (along m x ns l of_rigid (App f a))
  spared-front u l f a h s e r w i j =
      let split : inst_all u (App f a) ≡ App (inst_all u f) (inst_all u a) = apply-plain (inst_all u f) (inst_all u a) (inst-front m u s f h e r) in
      let both : Scoped ns (App (inst_all u f) (inst_all u a)) = subst (Scoped ns) split w in
      says-later (Spares u) (along m x ns l of_rigid f) (offence m x ns l a) (i (λ z m. or_left _ _ (both z m))) (j (λ z m. or_right _ _ (both z m)))

  spared-top : (u : ℕ → Term) (l : Bool) (f a : Term) → IsChoice m u → Scoped ns (inst_all u (App f a)) → ((h : Head) → head_of f ≡ Some h → Frozen m h → Says (Spares u) (along m x ns l of_rigid (App f a))) → (o : Option Head) → head_of f ≡ o → Says (Spares u) (along m x ns l (arguments m o (args_of f ++ a ∷ [])) (App f a))
  spared-top u l f a s w k (Some (Var v)) e = by_spine_name (nat_lt v m) refl
    where
      go : (q : Option (List SpineName)) → pattern_of (args_of f ++ a ∷ []) ≡ q → Says (Spares u) (along m x ns l (of_flexible v (args_of f ++ a ∷ []) q) (App f a))
      go None d = other_spine-says (Spares u) l (App f a)
      go (Some ks) d = says-map (ForeignAt ns v (length (args_of f ++ a ∷ [])) (App f a)) (Spares u) (pattern-spares u s v (App f a) e ks (pattern-terms (args_of f ++ a ∷ []) ks d).0 w) (along m x ns l (pattern_spine v (length (args_of f ++ a ∷ []))) (App f a)) (pattern-says v (length (args_of f ++ a ∷ [])) l (App f a))

      by_spine_name : (b : Bool) → nat_lt v m ≡ b → Says (Spares u) (along m x ns l (cond b of_rigid (of_flexible v (args_of f ++ a ∷ []) (pattern_of (args_of f ++ a ∷ [])))) (App f a))
      by_spine_name true d = k (Var v) e d
      by_spine_name false d = go (pattern_of (args_of f ++ a ∷ [])) refl
  spared-top u l f a s w k (Some (Con c)) e = k (Con c) e tt
  spared-top u l f a s w k (Some (Int c)) e = k (Int c) e tt
  spared-top u l f a s w k (Some (Str c)) e = k (Str c) e tt
  spared-top u l f a s w k (Some (Name c)) e = k (Name c) e tt
  spared-top u l f a s w k (Some (Bound c)) e = k (Bound c) e tt
  spared-top u l f a s w k None e = subst (Says (Spares u)) (sym (no-head l of_rigid (App f a) e)) tt

  spared : (t : Term) → SparedOf t
  spared (Lam b) = (λ u l s w. says-map (Spares (lifted u)) (Spares u) (spares-under u) (offence m x ns l b) ((spared b).0 (lifted u) l (lifted-good m u s) (scoped-under ns u b w)), λ u l h s e r w. tt)
  spared (At h) = (λ u l s w. head-says (Spares u) l h, λ u l k s e r w. head-says (Spares u) l h)
  spared (App f a) = (
    λ u l s w. spared-top u l f a s w (λ h e r. spared-front u l f a h s e r w ((spared f).1 u l h s e r) ((spared a).0 u l s)) (head_of f) refl,
    λ u l h s e r w. spared-front u l f a h s e r w ((spared f).1 u l h s e r) ((spared a).0 u l s),
  )

  pub dropped-spared : (u : ℕ → Term) → IsChoice m u → (t : Term) → Scoped ns (inst_all u t) → Says (Spares u) (offence m x ns false t)
  dropped-spared u s t w = (spared t).0 u false s w
