-- Looks at subterms, and the list of those that are still to be looked at.
use Rattle.std.proofs.Common.{◌≡◌, ℕ, zero, suc, ◌+◌, ◌<◌, ◌≤◌, ◌||◌, ◌++◌, Bool, true, false, cond, nat_eq, nat_lt, List, [], ◌∷◌, map, reverse, length, drop, get_or, Option, Some, None, refl, sym, ap, ap₂, ◌∙◌, subst, arith, ne_eqb, append_assoc, append-nil, option_map, IfSome}
use Rattle.std.proofs.lemmas.List.{reverse-append, reverse-reverse, length-map}
use Rattle.level_terms.specs.declared.node.TermId.{TermId}
use Rattle.level_terms.specs.declared.node.VarId.{VarId}
use Rattle.level_terms.specs.Graph.{Graph}
use Rattle.level_terms.specs.Growth.{Grows}
use Rattle.level_terms.specs.Reading.{read}
use Rattle.level_terms.specs.Sound.{IsSound}
use Rattle.level_terms.specs.Valid.{IsValid}
use Rattle.level_terms.proofs.ValidLemmas.{growth_keeps_valid}
use Rattle.ref_terms.specs.terms.Term as term
use Rattle.ref_terms.specs.terms.Term.{Term, Head, At}
use Rattle.ref_terms.specs.terms.Apply.{apply}
use Rattle.ref_terms.specs.terms.Occurs.{has_name}
use Rattle.ref_terms.specs.ending.Measure.{size, size-positive, size-opened}
use Rattle.ref_terms.specs.lemmas.NameLemmas.{nat_eq_self}
use Rattle.ref_terms.specs.unification.Spine.{apply_all}
use Rattle.ref_terms.specs.unification.Pattern.{SpineName, of_name, pattern_of}
use Rattle.ref_terms.specs.unification.Offence as offence
use Rattle.ref_terms.specs.unification.Offence.{or_later, Arguments, of_rigid, pattern_spine, other_spine, of_flexible, arguments, head_verdict}
use Rattle.beta_fragment.specs.declared.answer.RigidHead.{RigidHead}
use Rattle.beta_fragment.specs.declared.answer.RigidHead.TheVariants.{Con, Int, Str, Level}
use Rattle.beta_fragment.specs.Firm.{IsPlain}
use Rattle.beta_fragment.specs.HeadForm.{all_read, AllValidAt, rigid_head, IsAbstraction, FirstUnready}
use Rattle.beta_fragment.specs.Names.{names, AllBelow}
use Rattle.beta_fragment.specs.Quoted.{AllNamesBelow}
use Rattle.beta_fragment.proofs.FirmLemmas.{apply-plain}
use Rattle.beta_fragment.proofs.QuotableLemmas.{nameless-valid}
use Rattle.level_terms.proofs.ReadLemmas.{valid-below, grown-reads}
use Rattle.pattern_unify.specs.Bound.{IsOpen}
use Rattle.pattern_unify.specs.declared.offence.Verdict.{Verdict}
use Rattle.pattern_unify.specs.declared.offence.Verdict.TheVariants.{Fine, Redex, Scope, Itself, Foreign, Dropped}
use Rattle.pattern_unify.specs.declared.offence.Subterm.{Subterm}
use Rattle.pattern_unify.specs.inside.Searching.{Search, is_known, known_at, unknown_from, is_fine, at_place, head_says, place_says, spine_says, verdict_on, first_verdict, AllSearchable, search_size, subterm, LooksAt}
use Rattle.pattern_unify.specs.inside.Verdicts.{verdict_of, DropsAssignable}
use Rattle.pattern_unify.proofs.OffenceSpines.{later-none, later-later, known-at, lam-verdict, size-spine, arguments_verdict, spine-verdict, redex-verdict, rigid-arguments, other-arguments, size-arguments, pattern-is_names, names-verdict}

-- a valid node has no name from its depth on
pub names-low : (g : Graph) (t depth : ℕ) → IsValid g t depth → AllNamesBelow depth (read g t names)
names-low g t depth v = λ n h. nameless-valid n g t depth names v (λ i l. ne_eqb n i (omega (arith, h, l)))

-- where nothing is put onto the list
pub nothing-put : (work : List Subterm) → work ≡ work ++ reverse []
nothing-put work = sym (append-nil work)

-- an abstraction
opened-verdict : (s : Search) (depth : ℕ) (loose : Bool) (u : Term) → IsAbstraction u → s.base ≤ depth → AllNamesBelow depth u → verdict_on s depth loose u ≡ verdict_on s (suc depth) loose (apply u (names depth))
opened-verdict s depth loose (term.Lam b) w low k = lam-verdict s depth loose b low k
opened-verdict s depth loose (At h) w low k = absurd w
opened-verdict s depth loose (term.App f a) w low k = absurd w

opened-less : (depth : ℕ) (u : Term) → IsAbstraction u → size (apply u (names depth)) < size u
opened-less depth (term.Lam b) w = let e = size-opened b depth in omega (arith, e)
opened-less depth (At h) w = absurd w
opened-less depth (term.App f a) w = absurd w

pub looks-opened : (s : Search) (h : Graph) (depth inner : ℕ) (loose : Bool) (u : Term) (r : TermId) (work work' : List Subterm) → IsAbstraction u → AllNamesBelow depth u → inner ≡ suc depth → read h r.index names ≡ apply u (names depth) → IsValid h r.index (depth + 1) →
    work' ≡ work ++ subterm inner loose r ∷ [] → s.base ≤ depth → LooksAt s h depth loose u work work' Fine
looks-opened s h depth inner loose u r work work' w k deep reads valid put low = record {
  parts = subterm inner loose r ∷ [];
  pushed = put;
  verdict = opened-verdict s depth loose u w low k
      ∙ ap₂ (λ (d : ℕ) (t : Term). verdict_on s d loose t) (sym deep) (sym reads)
      ∙ sym (later-none (verdict_on s inner loose (read h r.index names)));
  searchable = (subst (IsValid h r.index) (let e : depth + 1 ≡ inner = omega (arith, deep) in e) valid, omega (arith, low, deep), tt);
  less = (let fewer = opened-less depth u w in let e = ap size reads in omega (arith, fewer, e));
  drops = tt;
}

-- a head that isn't a variable
name-stands : (n : ℕ) (xs : List Term) (t : Term) → IsPlain t → has_name n t ≡ true → has_name n (apply_all t xs) ≡ true
name-stands n [] t w e = e
name-stands n (x ∷ xs) t w e = name-stands n xs (apply t x) (subst IsPlain (sym (apply-plain t x w)) tt) (ap (has_name n) (apply-plain t x w) ∙ ap (λ b. b || has_name n x) e)

head-below : (depth n : ℕ) (xs : List Term) → AllNamesBelow depth (apply_all (At (term.Name n)) xs) → n < depth
head-below depth n xs w = go (nat_lt n depth) refl
  where
    go : (b : Bool) → nat_lt n depth ≡ b → n < depth
    go true e = grind (arith, e)
    go false e = absurd (let k : true ≡ false = sym (name-stands n xs (At (term.Name n)) tt (nat_eq_self n)) ∙ w n (grind (arith, e)) in cc)

name-found : (known loose : Bool) → verdict_of (cond known Fine (at_place loose Foreign)) ≡ cond known offence.fine (cond loose offence.scope offence.foreign)
name-found true loose = refl
name-found false true = refl
name-found false false = refl

head-found : (s : Search) (depth : ℕ) (loose : Bool) (h : RigidHead) (xs : List Term) → s.base ≤ depth → AllNamesBelow depth (apply_all (At (rigid_head h)) xs) → head_verdict s.variable (known_at s depth) loose (rigid_head h) ≡ verdict_of (head_says s.spine s.base loose h)
head-found s depth loose (Con c) xs low w = refl
head-found s depth loose (Int c) xs low w = refl
head-found s depth loose (Str c) xs low w = refl
head-found s depth loose (Level l) xs low w =
    ap (λ b. cond b offence.fine (cond loose offence.scope offence.foreign)) (known-at s depth l low (head-below depth l xs w))
    ∙ sym (name-found (is_known s.spine s.base l) loose)

rigid-kind : (m : ℕ) (h : RigidHead) (xs : List Term) → arguments m (Some (rigid_head h)) xs ≡ of_rigid
rigid-kind m (Con c) xs = refl
rigid-kind m (Int c) xs = refl
rigid-kind m (Str c) xs = refl
rigid-kind m (Level c) xs = refl

head-drops : (g : Graph) (m : ℕ) (ns : List ℕ) (base : ℕ) (loose : Bool) (h : RigidHead) → DropsAssignable g m (head_says ns base loose h)
head-drops g m ns base loose (Con c) = tt
head-drops g m ns base loose (Int c) = tt
head-drops g m ns base loose (Str c) = tt
head-drops g m ns base loose (Level l) = go (is_known ns base l) loose
  where
    go : (b l : Bool) → DropsAssignable g m (cond b Fine (at_place l Foreign))
    go true l = tt
    go false true = tt
    go false false = tt

pub parts-searchable : (s : Search) (g : Graph) (depth : ℕ) (loose : Bool) (ts : List TermId) → s.base ≤ depth → AllValidAt g ts depth → AllSearchable s g (map (subterm depth loose) ts)
parts-searchable s g depth loose [] low v = tt
parts-searchable s g depth loose (t ∷ ts) low v = (v.0, low, parts-searchable s g depth loose ts low v.1)

pub looks-rigid : (s : Search) (g : Graph) (depth : ℕ) (loose : Bool) (u : Term) (h : RigidHead) (ts : List TermId) (work work' : List Subterm) (r : Verdict) → s.base ≤ depth → AllNamesBelow depth u → AllValidAt g ts depth → u ≡ apply_all (At (rigid_head h)) (all_read g ts) →
    work' ≡ work ++ reverse (map (subterm depth loose) ts) → r ≡ head_says s.spine s.base loose h → LooksAt s g depth loose u work work' r
looks-rigid s g depth loose u h ts work work' r low k v e put says = record {
  parts = map (subterm depth loose) ts;
  pushed = put;
  verdict = ap (verdict_on s depth loose) e
      ∙ spine-verdict s.mark s.variable (known_at s depth) loose (rigid_head h) (all_read g ts)
      ∙ ap₂ (λ (x : offence.Verdict) (z : Arguments). or_later x (arguments_verdict s.mark s.variable (known_at s depth) loose z 0 (all_read g ts))) (head-found s depth loose h (all_read g ts) low (subst (AllNamesBelow depth) e k)) (rigid-kind s.mark h (all_read g ts))
      ∙ ap₂ (λ (x : Verdict) (w : offence.Verdict). or_later (verdict_of x) w) (sym says) (rigid-arguments s g depth loose 0 ts);
  searchable = parts-searchable s g depth loose ts low v;
  less = (let whole = ap size e ∙ size-spine (rigid_head h) (all_read g ts) in let parts = size-arguments g depth loose ts in omega (arith, whole, parts));
  drops = subst (DropsAssignable g s.mark) (sym says) (head-drops g s.mark s.spine s.base loose h);
}

-- an abstraction before an argument that isn't ready
redex-found : (s : Search) (g : Graph) (depth : ℕ) (loose : Bool) (f : Term) (ts : List TermId) → IsAbstraction f → FirstUnready g ts → verdict_on s depth loose (apply_all f (all_read g ts)) ≡ offence.redex
redex-found s g depth loose (term.Lam b) [] w k = absurd k
redex-found s g depth loose (term.Lam b) (t ∷ ts) w k = redex-verdict s.mark s.variable (known_at s depth) loose b (read g t.index names) (all_read g ts) k
redex-found s g depth loose (At h) ts w k = absurd w
redex-found s g depth loose (term.App x a) ts w k = absurd w

pub looks-redex : (s : Search) (g : Graph) (depth : ℕ) (loose : Bool) (u f : Term) (ts : List TermId) (work : List Subterm) → IsAbstraction f → FirstUnready g ts → u ≡ apply_all f (all_read g ts) → LooksAt s g depth loose u work work Redex
looks-redex s g depth loose u f ts work w k e = record {
  parts = [];
  pushed = nothing-put work;
  verdict = ap (verdict_on s depth loose) e ∙ redex-found s g depth loose f ts w k;
  searchable = tt;
  less = size-positive u;
  drops = tt;
}

-- a variable without a value
module _ (s : Search) (h : Graph) (depth : ℕ) (loose : Bool) (v : VarId) (xs : List Term) where
  variable-verdict : (z : Arguments) → arguments s.mark (Some (term.Var v.index)) xs ≡ z → (w : offence.Verdict) → head_verdict s.variable (known_at s depth) loose (term.Var v.index) ≡ w →
      verdict_on s depth loose (apply_all (At (term.Var v.index)) xs) ≡ or_later w (arguments_verdict s.mark s.variable (known_at s depth) loose z 0 xs)
  variable-verdict z e w k =
      spine-verdict s.mark s.variable (known_at s depth) loose (term.Var v.index) xs
      ∙ ap₂ (λ (x : offence.Verdict) (y : Arguments). or_later x (arguments_verdict s.mark s.variable (known_at s depth) loose y 0 xs)) k e

  another-fine : nat_eq s.variable v.index ≡ false → head_verdict s.variable (known_at s depth) loose (term.Var v.index) ≡ offence.fine
  another-fine e = ap (λ b. cond b (cond loose offence.scope offence.itself) offence.fine) e

  itself-later : (l : Bool) (w : offence.Verdict) → or_later (cond l offence.scope offence.itself) w ≡ or_later (verdict_of (at_place l Itself)) offence.fine
  itself-later true w = refl
  itself-later false w = refl

  itself-drops : (l : Bool) → DropsAssignable h s.mark (at_place l Itself)
  itself-drops true = tt
  itself-drops false = tt

  pub looks-itself : (work : List Subterm) (r : Verdict) → nat_eq s.variable v.index ≡ true → r ≡ at_place loose Itself → LooksAt s h depth loose (apply_all (At (term.Var v.index)) xs) work work r
  looks-itself work r e says = record {
    parts = [];
    pushed = nothing-put work;
    verdict = variable-verdict (arguments s.mark (Some (term.Var v.index)) xs) refl (cond loose offence.scope offence.itself) (ap (λ b. cond b (cond loose offence.scope offence.itself) offence.fine) e)
        ∙ itself-later loose (arguments_verdict s.mark s.variable (known_at s depth) loose (arguments s.mark (Some (term.Var v.index)) xs) 0 xs)
        ∙ ap (λ (x : Verdict). or_later (verdict_of x) offence.fine) (sym says);
    searchable = tt;
    less = size-positive (apply_all (At (term.Var v.index)) xs);
    drops = subst (DropsAssignable h s.mark) (sym says) (itself-drops loose);
  }

  assignable-kind : (o : Option (List SpineName)) → nat_lt v.index s.mark ≡ false → pattern_of xs ≡ o → arguments s.mark (Some (term.Var v.index)) xs ≡ of_flexible v.index xs o
  assignable-kind o e k = ap (λ b. cond b of_rigid (of_flexible v.index xs (pattern_of xs))) e ∙ ap (of_flexible v.index xs) k

  spine-drops : (l : Bool) (arity : ℕ) (o : Option ℕ) → IsOpen h v.index → s.mark ≤ v.index → DropsAssignable h s.mark (place_says l v arity o)
  spine-drops l arity None w k = tt
  spine-drops true arity (Some i) w k = tt
  spine-drops false arity (Some i) w k = (w, k)

  pub looks-pattern : (ns : List ℕ) (work : List Subterm) (r : Verdict) → nat_eq s.variable v.index ≡ false → nat_lt v.index s.mark ≡ false → pattern_of xs ≡ Some (map of_name ns) → AllBelow ns depth → s.base ≤ depth → IsOpen h v.index → s.mark ≤ v.index → r ≡ spine_says s.spine s.base loose v ns →
      LooksAt s h depth loose (apply_all (At (term.Var v.index)) xs) work work r
  looks-pattern ns work r e f p below low free assignable says =
      let ys = pattern-is_names xs ns p in
      let count : length xs ≡ length ns = ap length (pattern-is_names xs ns p) ∙ length-map ns names in
      record {
        parts = [];
        pushed = nothing-put work;
        verdict = variable-verdict (pattern_spine v.index (length ns)) (assignable-kind (Some (map of_name ns)) f p ∙ ap (pattern_spine v.index) count) offence.fine (another-fine e)
            ∙ ap (arguments_verdict s.mark s.variable (known_at s depth) loose (pattern_spine v.index (length ns)) 0) ys
            ∙ names-verdict s depth loose v (length ns) 0 ns low below
            ∙ ap verdict_of (sym says)
            ∙ sym (later-none (verdict_of r));
        searchable = tt;
        less = size-positive (apply_all (At (term.Var v.index)) xs);
        drops = subst (DropsAssignable h s.mark) (sym says) (spine-drops loose (length ns) (unknown_from s.spine s.base 0 ns) free assignable);
      }

-- the names of a spine that is found to be a pattern
pub pattern-found : {A : Type 0} (o : Option A) (a : A) (items : A → List ℕ) (p : Option (List SpineName)) → o ≡ Some a → option_map (λ x. map of_name (items x)) o ≡ p → p ≡ Some (map of_name (items a))
pattern-found o a items p e q = sym q ∙ ap (option_map (λ x. map of_name (items x))) e

pub pattern-missing : {A : Type 0} (o : Option A) (items : A → List ℕ) (p : Option (List SpineName)) → o ≡ None → option_map (λ x. map of_name (items x)) o ≡ p → p ≡ None
pattern-missing o items p e q = sym q ∙ ap (option_map (λ x. map of_name (items x))) e

pub below-found : {A : Type 0} (o : Option A) (a : A) (items : A → List ℕ) (depth : ℕ) → o ≡ Some a → IfSome o (λ x. AllBelow (items x) depth) → AllBelow (items a) depth
below-found o a items depth e w = subst (λ x. IfSome x (λ y. AllBelow (items y) depth)) e w

-- an assignable variable
pub below_false : (v m : ℕ) → m ≤ v → nat_lt v m ≡ false
below_false v m h = go (nat_lt v m) refl
  where
    go : (b : Bool) → nat_lt v m ≡ b → nat_lt v m ≡ false
    go true e = absurd (let k : v < m = grind (arith, e) in omega (arith, h, k))
    go false e = e

-- its arguments are looked at where it is frozen, and where its spine is no pattern
pub looks-frozen : (s : Search) (h : Graph) (depth : ℕ) (loose : Bool) (v : VarId) (ts : List TermId) (work work' : List Subterm) → nat_eq s.variable v.index ≡ false → nat_lt v.index s.mark ≡ true → s.base ≤ depth → AllValidAt h ts depth →
    work' ≡ work ++ reverse (map (subterm depth loose) ts) → LooksAt s h depth loose (apply_all (At (term.Var v.index)) (all_read h ts)) work work' Fine
looks-frozen s h depth loose v ts work work' e f low valid put = record {
  parts = map (subterm depth loose) ts;
  pushed = put;
  verdict = variable-verdict s h depth loose v (all_read h ts) of_rigid (ap (λ b. cond b of_rigid (of_flexible v.index (all_read h ts) (pattern_of (all_read h ts)))) f) offence.fine (another-fine s h depth loose v (all_read h ts) e)
      ∙ rigid-arguments s h depth loose 0 ts;
  searchable = parts-searchable s h depth loose ts low valid;
  less = (let whole = size-spine (term.Var v.index) (all_read h ts) in let parts = size-arguments h depth loose ts in omega (arith, whole, parts));
  drops = tt;
}

pub looks-loose : (s : Search) (h : Graph) (depth : ℕ) (loose : Bool) (v : VarId) (ts : List TermId) (work work' : List Subterm) → nat_eq s.variable v.index ≡ false → nat_lt v.index s.mark ≡ false → pattern_of (all_read h ts) ≡ None → s.base ≤ depth → AllValidAt h ts depth →
    work' ≡ work ++ reverse (map (subterm depth true) ts) → LooksAt s h depth loose (apply_all (At (term.Var v.index)) (all_read h ts)) work work' Fine
looks-loose s h depth loose v ts work work' e f p low valid put = record {
  parts = map (subterm depth true) ts;
  pushed = put;
  verdict = variable-verdict s h depth loose v (all_read h ts) other_spine (assignable-kind s h depth loose v (all_read h ts) None f p) offence.fine (another-fine s h depth loose v (all_read h ts) e)
      ∙ other-arguments s h depth loose 0 ts;
  searchable = parts-searchable s h depth true ts low valid;
  less = (let whole = size-spine (term.Var v.index) (all_read h ts) in let parts = size-arguments h depth true ts in omega (arith, whole, parts));
  drops = tt;
}

-- lists of subterms, one after another
verdict-append : (s : Search) (g : Graph) (ps qs : List Subterm) → first_verdict s g (ps ++ qs) ≡ or_later (first_verdict s g ps) (first_verdict s g qs)
verdict-append s g [] qs = refl
verdict-append s g (p ∷ ps) qs =
    ap (or_later (verdict_on s p.depth p.loose (read g p.node.index names))) (verdict-append s g ps qs)
    ∙ sym (later-later (verdict_on s p.depth p.loose (read g p.node.index names)) (first_verdict s g ps) (first_verdict s g qs))

searchable-append : (s : Search) (g : Graph) (ps qs : List Subterm) → AllSearchable s g ps → AllSearchable s g qs → AllSearchable s g (ps ++ qs)
searchable-append s g [] qs v w = w
searchable-append s g (p ∷ ps) qs v w = (v.0, v.1, searchable-append s g ps qs v.2 w)

size-append : (g : Graph) (ps qs : List Subterm) → search_size g (ps ++ qs) ≡ search_size g ps + search_size g qs
size-append g [] qs = omega arith
size-append g (p ∷ ps) qs = let e = size-append g ps qs in omega (arith, e)

-- in a heap that grew
module _ (g h : Graph) (sound : IsSound g) (grows : Grows g h [] []) where
  same-reading : (t depth : ℕ) → IsValid g t depth → read h t names ≡ read g t names
  same-reading t depth v = ap (λ r. r names) (grown-reads g h sound grows t (valid-below g t depth v))

  searchable-grown : (s : Search) (ps : List Subterm) → AllSearchable s g ps → AllSearchable s h ps
  searchable-grown s [] w = tt
  searchable-grown s (p ∷ ps) w = (growth_keeps_valid g h [] [] p.node.index p.depth sound grows (valid-below g p.node.index p.depth w.0) w.0, w.1, searchable-grown s ps w.2)

  verdict-grown : (s : Search) (ps : List Subterm) → AllSearchable s g ps → first_verdict s h ps ≡ first_verdict s g ps
  verdict-grown s [] w = refl
  verdict-grown s (p ∷ ps) w = ap₂ (λ (u : Term) (v : offence.Verdict). or_later (verdict_on s p.depth p.loose u) v) (same-reading p.node.index p.depth w.0) (verdict-grown s ps w.2)

  size-grown : (s : Search) (ps : List Subterm) → AllSearchable s g ps → search_size h ps ≡ search_size g ps
  size-grown s [] w = refl
  size-grown s (p ∷ ps) w = ap₂ (λ (u : Term) (n : ℕ). size u + n) (same-reading p.node.index p.depth w.0) (size-grown s ps w.2)

-- a look at the last subterm of the list
fine-is : (r : Verdict) → is_fine r ≡ true → verdict_of r ≡ offence.fine
fine-is Fine e = refl
fine-is Redex e = absurd (let k : false ≡ true = e in cc)
fine-is Scope e = absurd (let k : false ≡ true = e in cc)
fine-is Itself e = absurd (let k : false ≡ true = e in cc)
fine-is Foreign e = absurd (let k : false ≡ true = e in cc)
fine-is (Dropped v i n) e = absurd (let k : false ≡ true = e in cc)

first-found : (r : Verdict) (w : offence.Verdict) → is_fine r ≡ false → or_later (verdict_of r) w ≡ verdict_of r
first-found Fine w e = absurd (let k : true ≡ false = e in cc)
first-found Redex w e = refl
first-found Scope w e = refl
first-found Itself w e = refl
first-found Foreign w e = refl
first-found (Dropped v i n) w e = refl

newest : (rest : List Subterm) (p : Subterm) → reverse (rest ++ p ∷ []) ≡ p ∷ reverse rest
newest rest p = reverse-append rest (p ∷ [])

module _ (s : Search) (g h : Graph) (p : Subterm) (work rest work' : List Subterm) (r : Verdict) (sound : IsSound g) (grows : Grows g h [] []) (split : work ≡ rest ++ p ∷ []) (w : AllSearchable s g (reverse work)) where
  unrolled : reverse work ≡ p ∷ reverse rest
  unrolled = ap reverse split ∙ newest rest p

  all : AllSearchable s g (p ∷ reverse rest)
  all = subst (AllSearchable s g) unrolled w

  pub next-valid : IsValid g p.node.index p.depth
  next-valid = all.0

  pub next-deep : s.base ≤ p.depth
  next-deep = all.1

  module _ (l : LooksAt s h p.depth p.loose (read g p.node.index names) rest work' r) where
    left : reverse work' ≡ l.parts ++ reverse rest
    left = ap reverse l.pushed ∙ reverse-append rest (reverse l.parts) ∙ ap (λ (ps : List Subterm). ps ++ reverse rest) (reverse-reverse l.parts)

    pub turn-searchable : AllSearchable s h (reverse work')
    turn-searchable = subst (AllSearchable s h) (sym left) (searchable-append s h l.parts (reverse rest) l.searchable (searchable-grown g h sound grows s (reverse rest) all.2))

    whole : first_verdict s g (reverse work) ≡ or_later (verdict_of r) (or_later (first_verdict s h l.parts) (first_verdict s g (reverse rest)))
    whole =
        ap (first_verdict s g) unrolled
        ∙ ap (λ v. or_later v (first_verdict s g (reverse rest))) l.verdict
        ∙ later-later (verdict_of r) (first_verdict s h l.parts) (first_verdict s g (reverse rest))

    pub turn-fine : is_fine r ≡ true → first_verdict s g (reverse work) ≡ first_verdict s h (reverse work')
    turn-fine e =
        whole
        ∙ ap (λ v. or_later v (or_later (first_verdict s h l.parts) (first_verdict s g (reverse rest)))) (fine-is r e)
        ∙ ap (or_later (first_verdict s h l.parts)) (sym (verdict-grown g h sound grows s (reverse rest) all.2))
        ∙ sym (verdict-append s h l.parts (reverse rest))
        ∙ ap (first_verdict s h) (sym left)

    pub turn-found : is_fine r ≡ false → first_verdict s g (reverse work) ≡ verdict_of r
    turn-found e = whole ∙ first-found r (or_later (first_verdict s h l.parts) (first_verdict s g (reverse rest))) e

    pub turn-less : search_size h (reverse work') < search_size g (reverse work)
    turn-less =
        let before = ap (search_size g) unrolled in
        let after = ap (search_size h) left ∙ size-append h l.parts (reverse rest) in
        let same = size-grown g h sound grows s (reverse rest) all.2 in
        let fewer = l.less in
        omega (arith, before, after, same, fewer)

-- one subterm alone
pub first-search : (s : Search) (g : Graph) (t : TermId) (depth : ℕ) (work : List Subterm) → s.base ≤ depth → IsValid g t.index depth → work ≡ subterm depth false t ∷ [] →
    AllSearchable s g (reverse work) × (verdict_on s depth false (read g t.index names) ≡ first_verdict s g (reverse work))
first-search s g t depth work low v e = (
  subst (λ (ps : List Subterm). AllSearchable s g (reverse ps)) (sym e) (v, low, tt),
  sym (later-none (verdict_on s depth false (read g t.index names))) ∙ ap (λ (ps : List Subterm). first_verdict s g (reverse ps)) (sym e),
)

-- the subterms from an index on
pub parts-end : (depth : ℕ) (loose : Bool) (ts : List TermId) → drop (length ts) (map (subterm depth loose) ts) ≡ []
parts-end depth loose [] = refl
parts-end depth loose (t ∷ ts) = parts-end depth loose ts

pub parts-one : (depth : ℕ) (loose : Bool) (ts : List TermId) (i : ℕ) (z : TermId) → i < length ts → drop i (map (subterm depth loose) ts) ≡ subterm depth loose (get_or ts i z) ∷ drop (suc i) (map (subterm depth loose) ts)
parts-one depth loose [] i z h = absurd (omega (arith, h))
parts-one depth loose (t ∷ ts) zero z h = refl
parts-one depth loose (t ∷ ts) (suc i) z h = parts-one depth loose ts i z (omega (arith, h))

pub parts-step : (old work new rest : List Subterm) (p : Subterm) (more : List Subterm) → work ≡ old ++ reverse rest → new ≡ work ++ p ∷ [] → more ≡ p ∷ rest → new ≡ old ++ reverse more
parts-step old work new rest p more h e k =
    e ∙ ap (λ (ws : List Subterm). ws ++ p ∷ []) h ∙ append_assoc old (reverse rest) (p ∷ [])
    ∙ ap (λ (ws : List Subterm). old ++ ws) (sym (reverse-append (p ∷ []) rest) ∙ ap reverse (sym k))
