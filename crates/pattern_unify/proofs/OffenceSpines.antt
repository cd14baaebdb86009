-- The verdict on a term by its head and its arguments.
use Rattle.std.proofs.Common.{◌≡◌, ℕ, zero, suc, ◌+◌, ◌-◌, ◌<◌, ◌≤◌, ◌||◌, ◌++◌, Bool, true, false, cond, not, nat_eq, nat_lt, List, [], ◌∷◌, map, length, Option, Some, None, refl, sym, ap, ap₂, ◌∙◌, subst, arith, append-nil, append_assoc, length-append, drop, get_or}
use Rattle.std.specs.List.{list_any}
use Rattle.std.proofs.lemmas.List.Folds.{list_any-append}
use Rattle.level_terms.specs.declared.node.TermId.{TermId}
use Rattle.level_terms.specs.declared.node.VarId.{VarId}
use Rattle.level_terms.specs.Graph.{Graph}
use Rattle.level_terms.specs.Reading.{read}
use Rattle.ref_terms.specs.terms.Term.{Term, Head, Con, Int, Str, Name, Bound, Var, Lam, At, App}
use Rattle.ref_terms.specs.terms.Index.{sub, first}
use Rattle.ref_terms.specs.terms.Apply.{apply}
use Rattle.ref_terms.specs.terms.Ready.{ready}
use Rattle.ref_terms.specs.lemmas.ReadyFacts.{ready-name}
use Rattle.ref_terms.specs.ending.Measure.{size}
use Rattle.ref_terms.specs.ending.Rules.{arg_sizes}
use Rattle.ref_terms.specs.unification.Closing.{up_from}
use Rattle.ref_terms.specs.unification.Spine.{args_of, head_of, apply_all}
use Rattle.ref_terms.specs.unification.Pattern.{SpineName, of_name, of_bound, same_name, spine_name, add_distinct, pattern_of}
use Rattle.ref_terms.specs.unification.Offence.{Verdict, fine, redex, scope, itself, foreign, dropped, or_later, Arguments, of_rigid, pattern_spine, other_spine, arguments, head_verdict, spine_verdict, offence, along}
use Rattle.beta_fragment.specs.Firm.{IsPlain}
use Rattle.beta_fragment.specs.HeadForm.{all_read}
use Rattle.beta_fragment.specs.Names.{names, AllBelow}
use Rattle.beta_fragment.specs.Quoted.{AllNamesBelow}
use Rattle.beta_fragment.proofs.FirmLemmas.{apply-plain, apply_all-plain, apply_all-head}
use Rattle.pattern_unify.specs.declared.offence.Verdict as code
use Rattle.pattern_unify.specs.declared.offence.Verdict.TheVariants as found
use Rattle.pattern_unify.specs.inside.Searching.{Search, is_known, known_at, unknown_from, at_place, place_says, verdict_on, first_verdict, search_size, subterm}
use Rattle.pattern_unify.specs.inside.Verdicts.{verdict_of}
use Rattle.pattern_unify.proofs.OffenceOpened.{as_term, offence-opened}

-- the first verdict decides
pub later-none : (v : Verdict) → or_later v fine ≡ v
later-none fine = refl
later-none redex = refl
later-none scope = refl
later-none itself = refl
later-none foreign = refl
later-none (dropped v i n) = refl

pub later-later : (u v w : Verdict) → or_later (or_later u v) w ≡ or_later u (or_later v w)
later-later fine v w = refl
later-later redex v w = refl
later-later scope v w = refl
later-later itself v w = refl
later-later foreign v w = refl
later-later (dropped x i n) v w = refl

-- names that are known
up_from-any : (k base n : ℕ) → n < base + k → list_any (nat_eq n) (up_from base k) ≡ not (nat_lt n base)
up_from-any zero base n h = go (nat_lt n base) refl
  where
    go : (b : Bool) → nat_lt n base ≡ b → false ≡ not b
    go true e = refl
    go false e = absurd (let low : base ≤ n = grind (arith, e) in omega (arith, h, low))
up_from-any (suc k) base n h = ap (λ b. nat_eq n base || b) (up_from-any k (suc base) n (omega (arith, h))) ∙ go (nat_eq n base) refl (nat_lt n (suc base)) refl (nat_lt n base) refl
  where
    go : (a : Bool) → nat_eq n base ≡ a → (b : Bool) → nat_lt n (suc base) ≡ b → (c : Bool) → nat_lt n base ≡ c → (a || not b) ≡ not c
    go true e b f true g = absurd (grind (arith, e, g))
    go true e b f false g = refl
    go false e true f true g = refl
    go false e true f false g = absurd (grind (arith, e, f, g))
    go false e false f true g = absurd (grind (arith, e, f, g))
    go false e false f false g = refl

pub known-at : (s : Search) (depth n : ℕ) → s.base ≤ depth → n < depth → list_any (nat_eq n) (known_at s depth) ≡ is_known s.spine s.base n
known-at s depth n low h =
    list_any-append (nat_eq n) s.spine (up_from s.base (depth - s.base))
    ∙ ap (λ b. list_any (nat_eq n) s.spine || b) (up_from-any (depth - s.base) s.base n (omega (arith, low, h)))
    ∙ go (list_any (nat_eq n) s.spine) (nat_lt n s.base)
  where
    go : (a b : Bool) → (a || not b) ≡ cond b a true
    go true true = refl
    go true false = refl
    go false true = refl
    go false false = refl

own-known : (ns : List ℕ) (base depth : ℕ) → base ≤ depth → is_known ns base depth ≡ true
own-known ns base depth low = go (nat_lt depth base) refl
  where
    go : (b : Bool) → nat_lt depth base ≡ b → cond b (list_any (nat_eq depth) ns) true ≡ true
    go true e = absurd (let k : depth < base = grind (arith, e) in omega (arith, k, low))
    go false e = refl

-- where the search begins, the names of the spine are known alone
pub known-first : (m x : ℕ) (ns : List ℕ) (base : ℕ) → known_at (record { mark = m; variable = x; spine = ns; base = base }) base ≡ ns
known-first m x ns base = ap (λ k. ns ++ up_from base k) (let e : base - base ≡ 0 = omega arith in e) ∙ append-nil ns

-- an abstraction by its body under a fresh name
pub lam-verdict : (s : Search) (depth : ℕ) (loose : Bool) (b : Term) → s.base ≤ depth → AllNamesBelow depth (Lam b) →
    verdict_on s depth loose (Lam b) ≡ verdict_on s (suc depth) loose (apply (Lam b) (names depth))
lam-verdict s depth loose b low w =
    offence-opened depth s.mark s.variable (known_at s depth) (known_at s (suc depth))
    (λ n h. known-at s depth n low h ∙ sym (known-at s (suc depth) n (omega (arith, low)) (omega (arith, h))))
    (known-at s (suc depth) depth (omega (arith, low)) (omega arith) ∙ own-known s.spine s.base depth low)
    loose b w
    ∙ ap (λ r. offence s.mark s.variable (known_at s (suc depth)) loose (cond r (sub (first (names depth)) b) (App (Lam b) (names depth)))) (sym (ready-name depth))

-- the arguments of a term that is no abstraction, before more
args-more : (xs : List Term) (t : Term) → IsPlain t → args_of (apply_all t xs) ≡ args_of t ++ xs
args-more [] t w = sym (append-nil (args_of t))
args-more (x ∷ xs) t w =
    args-more xs (apply t x) (subst IsPlain (sym (apply-plain t x w)) tt)
    ∙ ap (λ (u : Term). args_of u ++ xs) (apply-plain t x w)
    ∙ append_assoc (args_of t) (x ∷ []) xs

size-more : (xs : List Term) (t : Term) → IsPlain t → size (apply_all t xs) ≡ size t + arg_sizes xs
size-more [] t w = omega arith
size-more (x ∷ xs) t w =
    let rest = size-more xs (apply t x) (subst IsPlain (sym (apply-plain t x w)) tt) in
    let one = ap size (apply-plain t x w) in
    omega (arith, rest, one)

pub size-spine : (h : Head) (xs : List Term) → size (apply_all (At h) xs) ≡ suc (arg_sizes xs)
size-spine h xs = let e = size-more xs (At h) tt in omega (arith, e)

module _ (m x : ℕ) (ns : List ℕ) (loose : Bool) where
  -- the verdict on the argument at position i, by the kind of its spine, and on all from there
  abbrev pub argument_verdict : Arguments → ℕ → Term → Verdict
  argument_verdict k i a = elim k [ of_rigid ↦ offence m x ns loose a | pattern_spine v n ↦ spine_verdict ns loose v i n a | other_spine ↦ offence m x ns true a ]

  abbrev pub arguments_verdict : Arguments → ℕ → List Term → Verdict
  arguments_verdict k i [] = fine
  arguments_verdict k i (a ∷ xs) = or_later (argument_verdict k i a) (arguments_verdict k (suc i) xs)

  along-more : (k : Arguments) (xs : List Term) (t : Term) → IsPlain t → along m x ns loose k (apply_all t xs) ≡ or_later (along m x ns loose k t) (arguments_verdict k (length (args_of t)) xs)
  along-more k [] t w = sym (later-none (along m x ns loose k t))
  along-more k (a ∷ xs) t w =
      along-more k xs (apply t a) (subst IsPlain (sym (apply-plain t a w)) tt)
      ∙ ap (λ (u : Term). or_later (along m x ns loose k u) (arguments_verdict k (length (args_of u)) xs)) (apply-plain t a w)
      ∙ later-later (along m x ns loose k t) (argument_verdict k (length (args_of t)) a) (arguments_verdict k (length (args_of t ++ a ∷ [])) xs)
      ∙ ap (λ i. or_later (along m x ns loose k t) (or_later (argument_verdict k (length (args_of t)) a) (arguments_verdict k i xs))) (let e = length-append (args_of t) (a ∷ []) in omega (arith, e))

  whole-along : (t : Term) → IsPlain t → offence m x ns loose t ≡ along m x ns loose (arguments m (head_of t) (args_of t)) t
  whole-along (Lam b) w = absurd w
  whole-along (At h) w = refl
  whole-along (App f a) w = refl

  -- a head before arguments
  pub spine-verdict : (h : Head) (xs : List Term) → offence m x ns loose (apply_all (At h) xs) ≡ or_later (head_verdict x ns loose h) (arguments_verdict (arguments m (Some h) xs) 0 xs)
  spine-verdict h xs =
      whole-along (apply_all (At h) xs) (apply_all-plain xs (At h) tt)
      ∙ ap₂ (λ (o : Option Head) (ys : List Term). along m x ns loose (arguments m o ys) (apply_all (At h) xs)) (apply_all-head xs (At h) tt) (args-more xs (At h) tt)
      ∙ along-more (arguments m (Some h) xs) xs (At h) tt

  -- an abstraction before an argument that isn't ready
  redex-along : (k : Arguments) (b a : Term) (xs : List Term) → along m x ns loose k (apply_all (App (Lam b) a) xs) ≡ redex
  redex-along k b a xs = along-more k xs (App (Lam b) a) tt

  pub redex-verdict : (b a : Term) (xs : List Term) → ready a ≡ false → offence m x ns loose (apply_all (apply (Lam b) a) xs) ≡ redex
  redex-verdict b a xs e =
      ap (λ r. offence m x ns loose (apply_all (cond r (sub (first a) b) (App (Lam b) a)) xs)) e
      ∙ whole-along (apply_all (App (Lam b) a) xs) (apply_all-plain xs (App (Lam b) a) tt)
      ∙ redex-along (arguments m (head_of (apply_all (App (Lam b) a) xs)) (args_of (apply_all (App (Lam b) a) xs))) b a xs

-- arguments as subterms
pub rigid-arguments : (s : Search) (g : Graph) (depth : ℕ) (loose : Bool) (i : ℕ) (ts : List TermId) →
    arguments_verdict s.mark s.variable (known_at s depth) loose of_rigid i (all_read g ts) ≡ first_verdict s g (map (subterm depth loose) ts)
rigid-arguments s g depth loose i [] = refl
rigid-arguments s g depth loose i (t ∷ ts) = ap (or_later (offence s.mark s.variable (known_at s depth) loose (read g t.index names))) (rigid-arguments s g depth loose (suc i) ts)

pub other-arguments : (s : Search) (g : Graph) (depth : ℕ) (loose : Bool) (i : ℕ) (ts : List TermId) →
    arguments_verdict s.mark s.variable (known_at s depth) loose other_spine i (all_read g ts) ≡ first_verdict s g (map (subterm depth true) ts)
other-arguments s g depth loose i [] = refl
other-arguments s g depth loose i (t ∷ ts) = ap (or_later (offence s.mark s.variable (known_at s depth) true (read g t.index names))) (other-arguments s g depth loose (suc i) ts)

pub size-arguments : (g : Graph) (depth : ℕ) (loose : Bool) (ts : List TermId) → search_size g (map (subterm depth loose) ts) ≡ arg_sizes (all_read g ts)
size-arguments g depth loose [] = refl
size-arguments g depth loose (t ∷ ts) = ap (λ n. size (read g t.index names) + n) (size-arguments g depth loose ts)

-- the arguments of a pattern spine are its names
name-term : (t : Term) (k : SpineName) → spine_name t ≡ Some k → t ≡ as_term k
name-term (At (Name n)) k e = let q : of_name n ≡ k = cc in ap as_term q
name-term (At (Bound n)) k e = let q : of_bound n ≡ k = cc in ap as_term q
name-term (At (Con n)) k e = absurd (let z : None ≡ Some k = e in cc)
name-term (At (Int n)) k e = absurd (let z : None ≡ Some k = e in cc)
name-term (At (Str n)) k e = absurd (let z : None ≡ Some k = e in cc)
name-term (At (Var n)) k e = absurd (let z : None ≡ Some k = e in cc)
name-term (Lam b) k e = absurd (let z : None ≡ Some k = e in cc)
name-term (App f a) k e = absurd (let z : None ≡ Some k = e in cc)

pattern-terms : (ts : List Term) (ks : List SpineName) → pattern_of ts ≡ Some ks → ts ≡ map as_term ks
pattern-terms [] ks e = let q : [] ≡ ks = cc in ap (map as_term) q
pattern-terms (t ∷ ts) ks e = go (spine_name t) refl (pattern_of ts) refl (λ q d. pattern-terms ts q d) e
  where
    deep : (k : SpineName) → spine_name t ≡ Some k → (q : List SpineName) → ts ≡ map as_term q → (b : Bool) → cond b None (Some (k ∷ q)) ≡ Some ks → t ∷ ts ≡ map as_term ks
    deep k d q i true e = absurd (let z : None ≡ Some ks = e in cc)
    deep k d q i false e = let same : k ∷ q ≡ ks = cc in ap₂ (λ (u : Term) (us : List Term). u ∷ us) (name-term t k d) i ∙ ap (map as_term) same

    go : (k : Option SpineName) → spine_name t ≡ k → (q : Option (List SpineName)) → pattern_of ts ≡ q → ((q : List SpineName) → pattern_of ts ≡ Some q → ts ≡ map as_term q) → add_distinct k q ≡ Some ks → t ∷ ts ≡ map as_term ks
    go (Some k) d (Some q) c i e = deep k d q (i q c) (list_any (same_name k) q) e
    go (Some k) d None c i e = absurd (let z : None ≡ Some ks = e in cc)
    go None d q c i e = absurd (let z : None ≡ Some ks = e in cc)

names-terms : (ns : List ℕ) → map as_term (map of_name ns) ≡ map names ns
names-terms [] = refl
names-terms (n ∷ ns) = ap (λ (ts : List Term). names n ∷ ts) (names-terms ns)

pub pattern-is_names : (ts : List Term) (ns : List ℕ) → pattern_of ts ≡ Some (map of_name ns) → ts ≡ map names ns
pattern-is_names ts ns e = pattern-terms ts (map of_name ns) e ∙ names-terms ns

-- a pattern spine, by the first of its names that isn't known
place-later : (loose : Bool) (v i n : ℕ) (w : Verdict) → or_later (cond loose scope (dropped v i n)) w ≡ cond loose scope (dropped v i n)
place-later true v i n w = refl
place-later false v i n w = refl

place-of : (loose : Bool) (v : code.Verdict) → verdict_of (at_place loose v) ≡ cond loose scope (verdict_of v)
place-of true v = refl
place-of false v = refl

pub names-verdict : (s : Search) (depth : ℕ) (loose : Bool) (v : VarId) (arity i : ℕ) (ns : List ℕ) → s.base ≤ depth → AllBelow ns depth →
    arguments_verdict s.mark s.variable (known_at s depth) loose (pattern_spine v.index arity) i (map names ns) ≡ verdict_of (place_says loose v arity (unknown_from s.spine s.base i ns))
names-verdict s depth loose v arity i [] low w = refl
names-verdict s depth loose v arity i (n ∷ ns) low w =
    ap (λ b. or_later (cond (not b) (cond loose scope (dropped v.index i arity)) fine) (arguments_verdict s.mark s.variable (known_at s depth) loose (pattern_spine v.index arity) (suc i) (map names ns))) (known-at s depth n low (w 0 (omega arith)))
    ∙ go (is_known s.spine s.base n) (names-verdict s depth loose v arity (suc i) ns low (λ j h. w (suc j) (omega (arith, h))))
  where
    go : (b : Bool) → arguments_verdict s.mark s.variable (known_at s depth) loose (pattern_spine v.index arity) (suc i) (map names ns) ≡ verdict_of (place_says loose v arity (unknown_from s.spine s.base (suc i) ns)) → or_later (cond (not b) (cond loose scope (dropped v.index i arity)) fine) (arguments_verdict s.mark s.variable (known_at s depth) loose (pattern_spine v.index arity) (suc i) (map names ns)) ≡ verdict_of (place_says loose v arity (cond b (unknown_from s.spine s.base (suc i) ns) (Some i)))
    go true rest = rest
    go false rest = place-later loose v.index i arity _ ∙ sym (place-of loose (found.Dropped v i arity))

-- names from a position on
drop-one : (ns : List ℕ) (i : ℕ) → i < length ns → drop i ns ≡ get_or ns i 0 ∷ drop (suc i) ns
drop-one [] i h = absurd (omega (arith, h))
drop-one (n ∷ ns) zero h = refl
drop-one (n ∷ ns) (suc i) h = drop-one ns i (omega (arith, h))

pub drop-end : (ns : List ℕ) (i : ℕ) → i ≡ length ns → drop i ns ≡ []
drop-end [] i e = ap (λ k. drop k []) e
drop-end (n ∷ ns) zero e = absurd (omega (arith, e))
drop-end (n ∷ ns) (suc i) e = drop-end ns i (omega (arith, e))

pub unknown-step : (ns : List ℕ) (base : ℕ) (others : List ℕ) (i : ℕ) (b : Bool) → i < length others → b ≡ is_known ns base (get_or others i 0) →
    unknown_from ns base i (drop i others) ≡ cond b (unknown_from ns base (suc i) (drop (suc i) others)) (Some i)
unknown-step ns base others i b h e =
    ap (unknown_from ns base i) (drop-one others i h)
    ∙ ap (λ k. cond k (unknown_from ns base (suc i) (drop (suc i) others)) (Some i)) (sym e)
