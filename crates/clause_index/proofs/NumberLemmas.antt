-- Numbers of clauses that agree with a key.
use Rattle.std.proofs.Common.{◌≡◌, ℕ, zero, suc, ◌+◌, ◌-◌, ◌<◌, ◌≤◌, Bool, true, false, cond, not, ◌||◌, ◌&&◌, nat_eq, nat_lt, List, [], ◌∷◌, ◌++◌, length, drop, take, refl, sym, ap, ap₂, ◌∙◌, subst, arith, Option, Some, None, eqb-true, append-nil}
use Rattle.std.specs.Prelude.{slice_get}
use Rattle.std.proofs.lemmas.Bool.{eqb-false, ltb-true, ltb-false}
use Rattle.std.proofs.lemmas.List.{length-drop}
use mathlib.Core.Path.{fun_ext}
use Rattle.ref_terms.specs.declared.sym.Sym.{Sym}
use Rattle.ref_terms.specs.terms.Term.{Con}
use Rattle.ref_terms.specs.unification.Spine.{head_of}
use Rattle.ref_terms.specs.search.Program.{Program, Clause, headed_by, is_constant, constant_of}
use Rattle.clause_key.specs.declared.key.Key.{Key}
use Rattle.clause_key.specs.Keys.{agree, atom_key, fits_every, same_key}
use Rattle.clause_key.specs.Passing.{is_agreeing, numbers_of, NoneAgrees, IsNextFor}
use Rattle.clause_index.specs.declared.lists.Group.{Group}
use Rattle.clause_index.specs.declared.lists.Group.TheVariants.{Every, Loose, Keyed}
use Rattle.clause_index.specs.declared.index.Index.{Index}
use Rattle.clause_index.specs.declared.cands.Run.{Run}
use Rattle.clause_index.specs.inside.Lists.{same_group, group_of, list_of, IsPaired}
use Rattle.clause_index.specs.inside.Runs.{run_in, merged, comes_first, not_below, IsInOrder}
use Rattle.clause_index.specs.Index.{is_among, IsIndexOf}
use Rattle.clause_index.proofs.EqLemmas.{key-symm}
use Rattle.clause_index.proofs.OrderLemmas.{numbers-in_order, kept-from, merged-numbers}

-- a run from a number on has the numbers of its group from it on
pub run-numbers : (p : Program) (index : Index) (g : Group) (from : ℕ) (run : Run) → IsIndexOf p index → (IsPaired index.lists → IsInOrder (list_of index.lists g) → run_in index.lists run ≡ not_below from (list_of index.lists g))
    → run_in index.lists run ≡ numbers_of (is_among p g) from (drop from p.clauses)
run-numbers p index g from run w r =
    r w.paired (subst IsInOrder (sym (w.lists g)) (numbers-in_order (is_among p g) 0 p.clauses)) ∙ ap (not_below from) (w.lists g) ∙ kept-from (is_among p g) from p.clauses

-- merging with nothing
pub merged-nil : (xs : List ℕ) → merged xs [] ≡ xs
merged-nil [] = refl
merged-nil (x ∷ xs) = ap (λ ys. x ∷ ys) (merged-nil xs)

-- every clause of the predicate agrees with such a key
pub all-agree : (p : Program) (c : Sym) (key : Key) → fits_every key ≡ true → (k : Clause) → is_among p (Every c) k ≡ is_agreeing p c.0 key k
all-agree p c key e k = by (headed_by c.0 k.head) ∙ sym (ap (λ f. headed_by c.0 k.head && (f || fits_every (atom_key p k.head) || same_key (atom_key p k.head) key)) e)
  where
    by : (b : Bool) → b ≡ (b && (true || fits_every (atom_key p k.head) || same_key (atom_key p k.head) key))
    by true = refl
    by false = refl

-- else those with the key and those that agree with each
pub some-agree : (p : Program) (c : Sym) (key : Key) → fits_every key ≡ false → (k : Clause) → (is_among p (Keyed c key) k || is_among p (Loose c) k) ≡ is_agreeing p c.0 key k
some-agree p c key e k =
    by (headed_by c.0 k.head) (fits_every (atom_key p k.head)) (same_key key (atom_key p k.head)) (same_key (atom_key p k.head) key) (key-symm key (atom_key p k.head))
    ∙ sym (ap (λ f. headed_by c.0 k.head && (f || fits_every (atom_key p k.head) || same_key (atom_key p k.head) key)) e)
  where
    by : (h f s t : Bool) → s ≡ t → ((h && not f && s) || (h && f)) ≡ (h && (false || f || t))
    by false f s t d = refl
    by true true s t d = refl
    by true false true t d = d
    by true false false t d = d

-- and no clause is both
pub apart : (p : Program) (c : Sym) (key : Key) (k : Clause) → is_among p (Keyed c key) k ≡ true → is_among p (Loose c) k ≡ true → ⊥
apart p c key k = by (headed_by c.0 k.head) (fits_every (atom_key p k.head)) (same_key key (atom_key p k.head))
  where
    by : (h f s : Bool) → (h && not f && s) ≡ true → (h && f) ≡ true → ⊥
    by false f s d e = let z : false ≡ true = e in cc
    by true true s d e = let z : false ≡ true = d in cc
    by true false s d e = let z : false ≡ true = e in cc

pub every-numbers : (p : Program) (c : Sym) (key : Key) (from : ℕ) → fits_every key ≡ true → numbers_of (is_among p (Every c)) from (drop from p.clauses) ≡ numbers_of (is_agreeing p c.0 key) from (drop from p.clauses)
every-numbers p c key from e = ap (λ (f : Clause → Bool). numbers_of f from (drop from p.clauses)) (fun_ext (all-agree p c key e))

pub keyed-numbers : (p : Program) (c : Sym) (key : Key) (from : ℕ) → fits_every key ≡ false
    → merged (numbers_of (is_among p (Keyed c key)) from (drop from p.clauses)) (numbers_of (is_among p (Loose c)) from (drop from p.clauses)) ≡ numbers_of (is_agreeing p c.0 key) from (drop from p.clauses)
keyed-numbers p c key from e =
    merged-numbers (is_among p (Keyed c key)) (is_among p (Loose c)) (apart p c key) from (drop from p.clauses)
    ∙ ap (λ (f : Clause → Bool). numbers_of f from (drop from p.clauses)) (fun_ext (some-agree p c key e))

-- the next one of two lists that are merged
pub next-own : (xs ys : List ℕ) → comes_first (slice_get xs 0) (slice_get ys 0) ≡ true → (slice_get xs 0 ≡ slice_get (merged xs ys) 0) × (merged (drop 1 xs) ys ≡ drop 1 (merged xs ys))
next-own [] ys e = absurd (let z : false ≡ true = e in cc)
next-own (x ∷ xs) [] e = (refl, refl)
next-own (x ∷ xs) (y ∷ ys) e = (sym (ap (λ b. slice_get (cond b (x ∷ merged xs (y ∷ ys)) (y ∷ merged (x ∷ xs) ys)) 0) e), sym (ap (λ b. drop 1 (cond b (x ∷ merged xs (y ∷ ys)) (y ∷ merged (x ∷ xs) ys))) e))

pub next-loose : (xs ys : List ℕ) → comes_first (slice_get xs 0) (slice_get ys 0) ≡ false → (slice_get ys 0 ≡ slice_get (merged xs ys) 0) × (merged xs (drop 1 ys) ≡ drop 1 (merged xs ys))
next-loose [] ys e = (refl, refl)
next-loose (x ∷ xs) [] e = absurd (let z : true ≡ false = e in cc)
next-loose (x ∷ xs) (y ∷ ys) e = (sym (ap (λ b. slice_get (cond b (x ∷ merged xs (y ∷ ys)) (y ∷ merged (x ∷ xs) ys)) 0) e), sym (ap (λ b. drop 1 (cond b (x ∷ merged xs (y ∷ ys)) (y ∷ merged (x ∷ xs) ys))) e))

pub drop-one : {A : Type 0} (n : ℕ) (xs : List A) → drop (n + 1) xs ≡ drop 1 (drop n xs)
drop-one {A} n xs = ap (λ m. drop m xs) (let z : n + 1 ≡ suc n = omega arith in z) ∙ go n xs
  where
    go : (n : ℕ) (xs : List A) → drop (suc n) xs ≡ drop 1 (drop n xs)
    go zero xs = refl
    go (suc n) [] = refl
    go (suc n) (x ∷ xs) = go n xs

pub drop-past : {A : Type 0} (n : ℕ) (xs : List A) → length xs ≤ n → drop n xs ≡ drop 1 (drop n xs)
drop-past zero [] l = refl
drop-past (suc n) [] l = refl
drop-past zero (x ∷ xs) l = absurd (let z : suc (length xs) ≤ 0 = l in omega (arith, z))
drop-past (suc n) (x ∷ xs) l = drop-past n xs (let z : suc (length xs) ≤ suc n = l in omega (arith, z))

-- one more clause that doesn't agree
none-more : (p : Program) (c : ℕ) (key : Key) (from to : ℕ) (k : Clause) → slice_get p.clauses from ≡ Some k → (headed_by c k.head ≡ true → agree key (atom_key p k.head) ≡ false) → NoneAgrees p c key (suc from) to → NoneAgrees p c key from to
none-more p c key from to k here un w j m l h at headed = by (nat_eq j from) refl
  where
    by : (b : Bool) → nat_eq j from ≡ b → agree key (atom_key p m.head) ≡ false
    by true e =
        let same : k ≡ m = let z : Some k ≡ Some m = sym here ∙ ap (slice_get p.clauses) (sym (eqb-true j from e)) ∙ at in cc in
        ap (λ (z : Clause). agree key (atom_key p z.head)) (sym same) ∙ un (ap (λ (z : Clause). headed_by c z.head) same ∙ headed)
    by false e = w j m (omega (arith, l, eqb-false j from e)) h at headed

next-more : (p : Program) (c : ℕ) (key : Key) (from : ℕ) (k : Clause) → slice_get p.clauses from ≡ Some k → (headed_by c k.head ≡ true → agree key (atom_key p k.head) ≡ false) → (o : Option ℕ) → IsNextFor p c key (suc from) o → IsNextFor p c key from o
next-more p c key from k here un None w = none-more p c key from (length p.clauses) k here un w
next-more p c key from k here un (Some i) w = record { clause = w.clause; here = w.here; headed = w.headed; agrees = w.agrees; low = omega (arith, w.low); passed = none-more p c key from i k here un w.passed }

-- the first of the numbers from one on is that of the next clause that agrees
next-at : (p : Program) (c : ℕ) (key : Key) (n from : ℕ) (ks : List Clause) → length ks ≡ n → ((j : ℕ) → slice_get p.clauses (from + j) ≡ slice_get ks j) → length p.clauses ≡ from + n
    → IsNextFor p c key from (slice_get (numbers_of (is_agreeing p c key) from ks) 0)
next-at p c key n from [] e at long = λ j k l h i g. absurd (let z : length p.clauses ≡ from + n = long in let y : 0 ≡ n = e in omega (arith, z, y, l, h))
next-at p c key zero from (k ∷ ks) e at long = absurd (let y : suc (length ks) ≡ 0 = e in omega (arith, y))
next-at p c key (suc n) from (k ∷ ks) e at long =
    by (headed_by c k.head) (agree key (atom_key p k.head)) refl refl
    (next-at p c key n (suc from) ks (let y : suc (length ks) ≡ suc n = e in omega (arith, y)) (λ j. ap (slice_get p.clauses) (let y : suc from + j ≡ from + suc j = omega arith in y) ∙ at (suc j)) (omega (arith, long)))
  where
    here : slice_get p.clauses from ≡ Some k
    here = ap (slice_get p.clauses) (let y : from ≡ from + 0 = omega arith in y) ∙ at 0

    by : (h a : Bool) → headed_by c k.head ≡ h → agree key (atom_key p k.head) ≡ a → IsNextFor p c key (suc from) (slice_get (numbers_of (is_agreeing p c key) (suc from) ks) 0)
        → IsNextFor p c key from (slice_get (cond (headed_by c k.head && agree key (atom_key p k.head)) (from ∷ numbers_of (is_agreeing p c key) (suc from) ks) (numbers_of (is_agreeing p c key) (suc from) ks)) 0)
    by true true d f r =
        subst (λ b. IsNextFor p c key from (slice_get (cond b (from ∷ numbers_of (is_agreeing p c key) (suc from) ks) (numbers_of (is_agreeing p c key) (suc from) ks)) 0)) (sym (ap₂ (λ x y. x && y) d f))
        (record { clause = k; here = here; headed = d; agrees = f; low = omega arith; passed = λ j m l h i g. absurd (omega (arith, l, h)) })
    by true false d f r =
        subst (λ b. IsNextFor p c key from (slice_get (cond b (from ∷ numbers_of (is_agreeing p c key) (suc from) ks) (numbers_of (is_agreeing p c key) (suc from) ks)) 0)) (sym (ap₂ (λ x y. x && y) d f))
        (next-more p c key from k here (λ g. f) (slice_get (numbers_of (is_agreeing p c key) (suc from) ks) 0) r)
    by false a d f r =
        subst (λ b. IsNextFor p c key from (slice_get (cond b (from ∷ numbers_of (is_agreeing p c key) (suc from) ks) (numbers_of (is_agreeing p c key) (suc from) ks)) 0)) (sym (ap₂ (λ x y. x && y) d f))
        (next-more p c key from k here (λ g. absurd (let z : false ≡ true = sym d ∙ g in cc)) (slice_get (numbers_of (is_agreeing p c key) (suc from) ks) 0) r)

get-drop : (xs : List Clause) (n j : ℕ) → slice_get xs (n + j) ≡ slice_get (drop n xs) j
get-drop xs zero j = ap (slice_get xs) (let y : 0 + j ≡ j = omega arith in y)
get-drop [] (suc n) j = by (suc n + j) j
  where
    by : (i j : ℕ) → slice_get {X = Clause} [] i ≡ slice_get {X = Clause} [] j
    by zero zero = refl
    by zero (suc j) = refl
    by (suc i) zero = refl
    by (suc i) (suc j) = refl
get-drop (x ∷ xs) (suc n) j = ap (slice_get (x ∷ xs)) (let y : suc n + j ≡ suc (n + j) = omega arith in y) ∙ get-drop xs n j

none-past : (p : Program) (c : ℕ) (key : Key) (from : ℕ) → length p.clauses ≤ from → (ks : List Clause) → ks ≡ [] → IsNextFor p c key from (slice_get (numbers_of (is_agreeing p c key) from ks) 0)
none-past p c key from l [] e = λ j k m h i g. absurd (omega (arith, l, m, h))
none-past p c key from l (k ∷ ks) e = absurd (let z : k ∷ ks ≡ [] = e in cc)

past : (xs : List Clause) (n : ℕ) → length xs ≤ n → drop n xs ≡ []
past [] zero l = refl
past [] (suc n) l = refl
past (x ∷ xs) zero l = absurd (let z : suc (length xs) ≤ 0 = l in omega (arith, z))
past (x ∷ xs) (suc n) l = past xs n (let z : suc (length xs) ≤ suc n = l in omega (arith, z))

pub next-for : (p : Program) (c : ℕ) (key : Key) (from : ℕ) → IsNextFor p c key from (slice_get (numbers_of (is_agreeing p c key) from (drop from p.clauses)) 0)
next-for p c key from = by (nat_lt from (length p.clauses)) refl
  where
    by : (b : Bool) → nat_lt from (length p.clauses) ≡ b → IsNextFor p c key from (slice_get (numbers_of (is_agreeing p c key) from (drop from p.clauses)) 0)
    by true e =
        let l : from < length p.clauses = ltb-true from (length p.clauses) e in
        let long : length (drop from p.clauses) ≡ length p.clauses - from = length-drop from p.clauses in
        next-at p c key (length p.clauses - from) from (drop from p.clauses) long (get-drop p.clauses from) (omega (arith, l))
    by false e =
        let l : length p.clauses ≤ from = ltb-false from (length p.clauses) e in
        none-past p c key from l (drop from p.clauses) (past p.clauses from l)

-- the numbers of one more clause
pub numbers-more : (test : Clause → Bool) (i : ℕ) (ks : List Clause) (k : Clause) → numbers_of test i (ks ++ k ∷ []) ≡ numbers_of test i ks ++ cond (test k) ((i + length ks) ∷ []) []
numbers-more test i [] k = by (test k)
  where
    by : (b : Bool) → cond b (i ∷ []) [] ≡ cond b ((i + 0) ∷ []) []
    by true = ap (λ j. j ∷ []) (let y : i ≡ i + 0 = omega arith in y)
    by false = refl
numbers-more test i (x ∷ ks) k = by (test x) (numbers-more test (suc i) ks k ∙ ap (λ j. numbers_of test (suc i) ks ++ cond (test k) (j ∷ []) []) (let y : suc i + length ks ≡ i + suc (length ks) = omega arith in y))
  where
    by : (b : Bool) → numbers_of test (suc i) (ks ++ k ∷ []) ≡ numbers_of test (suc i) ks ++ cond (test k) ((i + suc (length ks)) ∷ []) []
        → cond b (i ∷ numbers_of test (suc i) (ks ++ k ∷ [])) (numbers_of test (suc i) (ks ++ k ∷ [])) ≡ cond b (i ∷ numbers_of test (suc i) ks) (numbers_of test (suc i) ks) ++ cond (test k) ((i + suc (length ks)) ∷ []) []
    by true r = ap (λ xs. i ∷ xs) r
    by false r = r

-- a clause goes into the group of its predicate, and into that of its key
put-one : (b d : Bool) (xs : List ℕ) (j : ℕ) → (b ≡ true → d ≡ false) → cond d (cond b (xs ++ j ∷ []) xs ++ j ∷ []) (cond b (xs ++ j ∷ []) xs) ≡ xs ++ cond (b || d) (j ∷ []) []
put-one true true xs j e = absurd (let z : true ≡ false = e refl in cc)
put-one true false xs j e = refl
put-one false true xs j e = refl
put-one false false xs j e = sym (append-nil xs)

-- whether a clause is one of a group, by its predicate and key
in-group : (p : Program) (g : Group) (k : Clause) (c : Sym) → head_of k.head ≡ Some (Con c.0) → is_among p g k ≡ (same_group g (Every c) || same_group g (group_of c (atom_key p k.head)))
in-group p (Every a) k c e = ap (λ h. is_constant a.0 (constant_of h)) e ∙ by (fits_every (atom_key p k.head)) (nat_eq a.0 c.0)
  where
    by : (f b : Bool) → b ≡ (b || same_group (Every a) (cond f (Loose c) (Keyed c (atom_key p k.head))))
    by f true = refl
    by true false = refl
    by false false = refl
in-group p (Loose a) k c e = ap (λ h. is_constant a.0 (constant_of h) && fits_every (atom_key p k.head)) e ∙ by (fits_every (atom_key p k.head)) (nat_eq a.0 c.0) refl
  where
    by : (f b : Bool) → nat_eq a.0 c.0 ≡ b → (nat_eq a.0 c.0 && f) ≡ (false || same_group (Loose a) (cond f (Loose c) (Keyed c (atom_key p k.head))))
    by true true d = rw d refl
    by true false d = rw d refl
    by false true d = rw d refl
    by false false d = rw d refl
in-group p (Keyed a key) k c e = ap (λ h. is_constant a.0 (constant_of h) && not (fits_every (atom_key p k.head)) && same_key key (atom_key p k.head)) e ∙ by (fits_every (atom_key p k.head)) (nat_eq a.0 c.0) refl
  where
    by : (f b : Bool) → nat_eq a.0 c.0 ≡ b → (nat_eq a.0 c.0 && not f && same_key key (atom_key p k.head)) ≡ (false || same_group (Keyed a key) (cond f (Loose c) (Keyed c (atom_key p k.head))))
    by true true d = rw d refl
    by true false d = rw d refl
    by false true d = rw d refl
    by false false d = rw d refl

not-both : (g : Group) (c : Sym) (key : Key) → same_group g (Every c) ≡ true → same_group g (group_of c key) ≡ false
not-both (Every a) c key e = by (fits_every key)
  where
    by : (f : Bool) → same_group (Every a) (cond f (Loose c) (Keyed c key)) ≡ false
    by true = refl
    by false = refl
not-both (Loose a) c key e = absurd (let z : false ≡ true = e in cc)
not-both (Keyed a k) c key e = absurd (let z : false ≡ true = e in cc)

-- one more clause
pub numbers-put : (p : Program) (g : Group) (ks : List Clause) (k : Clause) (c : Sym) (key : Key) (j : ℕ) (xs ys zs : List ℕ) → head_of k.head ≡ Some (Con c.0) → key ≡ atom_key p k.head → length ks ≡ j → xs ≡ numbers_of (is_among p g) 0 ks
    → ys ≡ cond (same_group g (Every c)) (xs ++ j ∷ []) xs → zs ≡ cond (same_group g (group_of c key)) (ys ++ j ∷ []) ys → zs ≡ numbers_of (is_among p g) 0 (ks ++ k ∷ [])
numbers-put p g ks k c key j xs ys zs head is long x y z =
    z ∙ ap (λ us. cond (same_group g (group_of c key)) (us ++ j ∷ []) us) y
    ∙ put-one (same_group g (Every c)) (same_group g (group_of c key)) xs j (not-both g c key)
    ∙ ap (λ b. xs ++ cond b (j ∷ []) []) (ap (λ q. same_group g (Every c) || same_group g (group_of c q)) is ∙ sym (in-group p g k c head))
    ∙ ap (λ us. us ++ cond (is_among p g k) (j ∷ []) []) x
    ∙ ap (λ i. numbers_of (is_among p g) 0 ks ++ cond (is_among p g k) (i ∷ []) []) (let u : j ≡ 0 + length ks = omega (arith, long) in u)
    ∙ sym (numbers-more (is_among p g) 0 ks k)

-- the clauses up to a number
pub clause-at : (ks : List Clause) (i : ℕ) → i < length ks → (k : Clause) × (slice_get ks i ≡ Some k)
clause-at [] i h = absurd (let l : i < 0 = h in omega (arith, l))
clause-at (k ∷ ks) zero h = (k, refl)
clause-at (k ∷ ks) (suc i) h = clause-at ks i (let l : suc i < suc (length ks) = h in omega (arith, l))

pub front-long : (ks : List Clause) (i : ℕ) → i < length ks → length (take i ks) ≡ i
front-long [] i h = absurd (let l : i < 0 = h in omega (arith, l))
front-long (k ∷ ks) zero h = refl
front-long (k ∷ ks) (suc i) h = ap suc (front-long ks i (let l : suc i < suc (length ks) = h in omega (arith, l)))

front-next : (ks : List Clause) (i : ℕ) (k : Clause) → slice_get ks i ≡ Some k → take (suc i) ks ≡ take i ks ++ k ∷ []
front-next [] i k e = absurd (let z : None ≡ Some k = e in cc)
front-next (x ∷ ks) zero k e = ap (λ (z : Clause). z ∷ []) (let z : Some x ≡ Some k = e in let y : x ≡ k = cc in y)
front-next (x ∷ ks) (suc i) k e = ap (λ (z : List Clause). x ∷ z) (front-next ks i k e)

pub front-more : (ks : List Clause) (i : ℕ) (k : Clause) → slice_get ks i ≡ Some k → take (i + 1) ks ≡ take i ks ++ k ∷ []
front-more ks i k e = ap (λ n. take n ks) (let z : i + 1 ≡ suc i = omega arith in z) ∙ front-next ks i k e

pub front-all : (ks : List Clause) (i : ℕ) → length ks ≤ i → take i ks ≡ ks
front-all [] zero h = refl
front-all [] (suc i) h = refl
front-all (k ∷ ks) zero h = absurd (let l : suc (length ks) ≤ 0 = h in omega (arith, l))
front-all (k ∷ ks) (suc i) h = ap (λ (z : List Clause). k ∷ z) (front-all ks i (let l : suc (length ks) ≤ suc i = h in omega (arith, l)))
