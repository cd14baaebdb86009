-- Terms in the places of names, all at once and one after the other.
use Rattle.std.proofs.Common.{◌≡◌, ℕ, zero, suc, ◌<◌, ◌≤◌, ◌+◌, ◌-◌, ◌++◌, List, [], ◌∷◌, length, drop, get_or, slice_index, cond, nat_eq, nat_lt, Bool, true, false, refl, sym, ap, ap₂, ◌∙◌, arith, subst, eqb-true, eq-eqb, ne_eqb, length-append}
use Rattle.std.proofs.Math.Seq.{drop-cons, get_or-append_seam}
use Rattle.std.proofs.lemmas.List.{get_or_append_left}
use mathlib.Core.Path.{fun_ext}
use Rattle.level_terms.specs.declared.node.TermId.{TermId}
use Rattle.level_terms.specs.Graph.{Graph}
use Rattle.level_terms.specs.Laws.{IsPlace, ArePlaces}
use Rattle.level_terms.specs.Sound.{IsSound}
use Rattle.level_terms.specs.Valid.{IsValid}
use Rattle.level_terms.specs.Reading.{read}
use Rattle.level_terms.proofs.LocalLemmas.{readings_local}
use Rattle.level_terms.proofs.ValidLemmas.{valid_deeper}
use Rattle.ref_terms.specs.terms.Term as term
use Rattle.ref_terms.specs.terms.Term.{Term, Head, At}
use Rattle.ref_terms.specs.terms.Index.{shift, sub, sub_head}
use Rattle.ref_terms.specs.terms.Eta.{lam}
use Rattle.ref_terms.specs.terms.Ready.{ready}
use Rattle.ref_terms.specs.terms.Apply.{apply, below, fill}
use Rattle.ref_terms.specs.terms.Built.{IsBuilt}
use Rattle.ref_terms.specs.terms.Occurs.{is_name, has_name}
use Rattle.ref_terms.specs.lemmas.ReadyFacts.{ready-name}
use Rattle.ref_terms.specs.lemmas.NameLemmas.{or_left, or_right}
use Rattle.ref_terms.specs.lemmas.OccursLemmas.{fill_at}
use Rattle.beta_fragment.specs.Names.{names, renamed}
use Rattle.beta_fragment.specs.Moves.{Lacks, put_name, IsMove}
use Rattle.beta_fragment.specs.HeadForm.{AllValidAt, all_read}
use Rattle.beta_fragment.specs.Firm.{IsPlain}
use Rattle.beta_fragment.specs.Instantiation.{put_names, AllPlain}
use Rattle.level_terms.proofs.ReadLemmas.{read-built, read-follows}
use Rattle.beta_fragment.proofs.MoveLemmas.{below_false, below_from, above_from}
use Rattle.level_terms.proofs.MakeLemmas.{below_true}
use Rattle.beta_fragment.proofs.NamelessLemmas.{nameless-read}
use Rattle.beta_fragment.proofs.PutLemmas.{put-absent}
use Rattle.beta_fragment.proofs.FilledLemmas.{fill-after}
use Rattle.beta_fragment.proofs.StandLemmas.{low-read}
use Rattle.beta_fragment.proofs.GentleLemmas.{IsGentle, fill-gently}

-- a head that is no name stays, and so does a lower name
no-name : (n : ℕ) (ss : List Term) (h : Head) → ((m : ℕ) → is_name m h ≡ false) → put_names n ss h ≡ At h
no-name n [] h w = refl
no-name n (s ∷ ss) h w = ap (λ b. cond b s (put_names (suc n) ss h)) (w n) ∙ no-name (suc n) ss h w

low-name : (n c : ℕ) (ss : List Term) → c < n → put_names n ss (term.Name c) ≡ At (term.Name c)
low-name n c [] h = refl
low-name n c (s ∷ ss) h = ap (λ b. cond b s (put_names (suc n) ss (term.Name c))) (ne_eqb n c (omega (arith, h))) ∙ low-name (suc n) c ss (omega (arith, h))

-- which term stands for a name doesn't hang on where the names begin
same-name : (n m j : ℕ) (ss : List Term) → j < length ss → put_names n ss (term.Name (n + j)) ≡ put_names m ss (term.Name (m + j))
same-name n m j [] h = absurd (omega (arith, h))
same-name n m zero (s ∷ ss) h =
    ap (λ b. cond b s (put_names (suc n) ss (term.Name (n + 0)))) (eq-eqb n (n + 0) (omega arith))
    ∙ sym (ap (λ b. cond b s (put_names (suc m) ss (term.Name (m + 0)))) (eq-eqb m (m + 0) (omega arith)))
same-name n m (suc j) (s ∷ ss) h =
    ap (λ b. cond b s (put_names (suc n) ss (term.Name (n + suc j)))) (ne_eqb n (n + suc j) (omega arith))
    ∙ ap (λ i. put_names (suc n) ss (term.Name i)) (let q : n + suc j ≡ suc n + j = omega arith in q)
    ∙ same-name (suc n) (suc m) j ss (omega (arith, h))
    ∙ sym (ap (λ b. cond b s (put_names (suc m) ss (term.Name (m + suc j)))) (ne_eqb m (m + suc j) (omega arith))
    ∙ ap (λ i. put_names (suc m) ss (term.Name i)) (let q : m + suc j ≡ suc m + j = omega arith in q))

-- terms that are no abstractions reduce nothing in the places of names
names-plain : (n : ℕ) (ss : List Term) → AllPlain ss → (h : Head) → IsPlain (put_names n ss h)
names-plain n [] w h = tt
names-plain n (s ∷ ss) w h = go (is_name n h) (names-plain (suc n) ss w.1 h)
  where
    go : (b : Bool) → IsPlain (put_names (suc n) ss h) → IsPlain (cond b s (put_names (suc n) ss h))
    go true more = w.0
    go false more = more

names-unready : (n : ℕ) (ss : List Term) (h : Head) → ready (At h) ≡ false → ready (put_names n ss h) ≡ false
names-unready n ss (term.Name c) e = absurd (let k : true ≡ false = sym (ready-name c) ∙ e in cc)
names-unready n ss (term.Con c) e = ap ready (no-name n ss (term.Con c) (λ m. refl)) ∙ e
names-unready n ss (term.Int c) e = ap ready (no-name n ss (term.Int c) (λ m. refl)) ∙ e
names-unready n ss (term.Str c) e = ap ready (no-name n ss (term.Str c) (λ m. refl)) ∙ e
names-unready n ss (term.Bound c) e = ap ready (no-name n ss (term.Bound c) (λ m. refl)) ∙ e
names-unready n ss (term.Var c) e = ap ready (no-name n ss (term.Var c) (λ m. refl)) ∙ e

names-gentle : (n : ℕ) (ss : List Term) → AllPlain ss → IsGentle (put_names n ss)
names-gentle n ss w = record {
  bounds = λ i. no-name n ss (term.Bound i) (λ m. refl);
  plain = names-plain n ss w;
  unready = names-unready n ss;
}

-- terms that don't have the name
abbrev pub AllWithout : ℕ → List Term → Type 0
AllWithout n [] = Unit {0}
AllWithout n (s ∷ ss) = IsBuilt s × (has_name n s ≡ false) × AllWithout n ss

other-name : (n m : ℕ) (h : Head) → n < m → is_name m h ≡ true → is_name n h ≡ false
other-name n m (term.Name c) lt e = let q : m ≡ c = eqb-true m c e in ne_eqb n c (omega (arith, lt, q))
other-name n m (term.Con c) lt e = refl
other-name n m (term.Int c) lt e = refl
other-name n m (term.Str c) lt e = refl
other-name n m (term.Bound c) lt e = refl
other-name n m (term.Var c) lt e = refl

one-more : (n m : ℕ) (s : Term) (ss : List Term) → n < m → AllWithout n ss → (h : Head) → fill (put_name n s) (put_names m ss h) ≡ cond (is_name n h) s (put_names m ss h)
one-more n m s [] lt w h = refl
one-more n m s (x ∷ xs) lt w h = go (is_name m h) refl (one-more n (suc m) s xs (omega (arith, lt)) w.2 h)
  where
    go : (b : Bool) → is_name m h ≡ b → fill (put_name n s) (put_names (suc m) xs h) ≡ cond (is_name n h) s (put_names (suc m) xs h) → fill (put_name n s) (cond b x (put_names (suc m) xs h)) ≡ cond (is_name n h) s (cond b x (put_names (suc m) xs h))
    go true e k = put-absent n s x w.0 w.1 ∙ sym (ap (λ c. cond c s x) (other-name n m h lt e))
    go false e k = k

pub put-one_more : (n : ℕ) (s : Term) (ss : List Term) (x : Term) → AllPlain ss → AllWithout n ss → IsBuilt x → fill (put_name n s) (fill (put_names (suc n) ss) x) ≡ fill (put_names n (s ∷ ss)) x
put-one_more n s ss x p w b = fill-gently (put_name n s) (put_names (suc n) ss) (names-gentle (suc n) ss p) x b ∙ ap (λ r. fill r x) (fun_ext (one-more n (suc n) s ss (omega arith) w))

pub all-without : (g : Graph) (to n : ℕ) (ts : List TermId) → to ≤ n → AllValidAt g ts to → AllWithout n (all_read g ts)
all-without g to n [] low v = tt
all-without g to n (t ∷ ts) low v = (read-built g t.index names, low-read g t.index n (valid_deeper g t.index to n v.0 low), all-without g to n ts low v.1)

-- so for the terms from one on
pub plain-drop : (g : Graph) (i : ℕ) (ts : List TermId) → AllPlain (all_read g ts) → AllPlain (all_read g (drop i ts))
plain-drop g zero ts w = w
plain-drop g (suc i) [] w = tt
plain-drop g (suc i) (t ∷ ts) w = plain-drop g i ts w.1

pub valid-drop : (g : Graph) (to i : ℕ) (ts : List TermId) → AllValidAt g ts to → AllValidAt g (drop i ts) to
valid-drop g to zero ts w = w
valid-drop g to (suc i) [] w = tt
valid-drop g to (suc i) (t ∷ ts) w = valid-drop g to i ts w.1

pub drop-nothing : (g : Graph) (n : ℕ) (ts : List TermId) (x : Term) → IsBuilt x → x ≡ fill (put_names n (all_read g (drop (length ts) ts))) x
drop-nothing g n [] x b = sym (fill_at x b)
drop-nothing g n (t ∷ ts) x b = drop-nothing g n ts x b

-- the last term that isn't put yet, in the place of its name
pub put-next : (g : Graph) (to i : ℕ) (ts : List TermId) (a : TermId) (x y : Term) → AllValidAt g ts to → AllPlain (all_read g ts) → i < length ts → IsBuilt x → y ≡ fill (put_names (to + suc i) (all_read g (drop (suc i) ts))) x →
    fill (put_name (to + i) (read g (get_or ts i a).index names)) y ≡ fill (put_names (to + i) (all_read g (drop i ts))) x
put-next g to i ts a x y v p h b e =
    ap (fill (put_name (to + i) (read g (get_or ts i a).index names))) (e ∙ ap (λ n. fill (put_names n (all_read g (drop (suc i) ts))) x) (let q : to + suc i ≡ suc (to + i) = omega arith in q))
    ∙ put-one_more (to + i) (read g (get_or ts i a).index names) (all_read g (drop (suc i) ts)) x (plain-drop g (suc i) ts p) (all-without g to (to + i) (drop (suc i) ts) (omega arith) (valid-drop g to (suc i) ts v)) b
    ∙ sym (ap (λ (us : List TermId). fill (put_names (to + i) (all_read g us)) x) (drop-cons ts i a h))

-- replacements that agree on the heads of a term whose names are low
abbrev IsLow : ℕ → Head → Type 0
IsLow n (term.Name c) = c < n
IsLow n h = Unit {0}

abbrev AgreeLow : ℕ → (Head → Term) → (Head → Term) → Type 0
AgreeLow n r q = (h : Head) → IsLow n h → r h ≡ q h

below-low : (n : ℕ) (r q : Head → Term) → AgreeLow n r q → AgreeLow n (below r) (below q)
below-low n r q e (term.Bound zero) k = refl
below-low n r q e (term.Bound (suc i)) k = ap shift (e (term.Bound i) tt)
below-low n r q e (term.Con c) k = ap shift (e (term.Con c) tt)
below-low n r q e (term.Int c) k = ap shift (e (term.Int c) tt)
below-low n r q e (term.Str c) k = ap shift (e (term.Str c) tt)
below-low n r q e (term.Name c) k = ap shift (e (term.Name c) k)
below-low n r q e (term.Var c) k = ap shift (e (term.Var c) tt)

head-low : (n : ℕ) (h : Head) → ((m : ℕ) → n ≤ m → is_name m h ≡ false) → IsLow n h
head-low n (term.Bound i) w = tt
head-low n (term.Con c) w = tt
head-low n (term.Int c) w = tt
head-low n (term.Str c) w = tt
head-low n (term.Var c) w = tt
head-low n (term.Name c) w = go (nat_lt c n) refl
  where
    go : (b : Bool) → nat_lt c n ≡ b → c < n
    go true e = below_from c n e
    go false e = absurd (let k : true ≡ false = sym (eq-eqb c c refl) ∙ w c (above_from c n e) in cc)

fill-low : (n : ℕ) (r q : Head → Term) → AgreeLow n r q → (t : Term) → ((m : ℕ) → n ≤ m → has_name m t ≡ false) → fill r t ≡ fill q t
fill-low n r q e (term.Lam b) w = ap lam (fill-low n (below r) (below q) (below-low n r q e) b w)
fill-low n r q e (At h) w = e h (head-low n h w)
fill-low n r q e (term.App f a) w = ap₂ apply (fill-low n r q e f (λ m k. or_left _ _ (w m k))) (fill-low n r q e a (λ m k. or_right _ _ (w m k)))

-- names below one, and indices for what is above
abbrev part_names : ℕ → ℕ → Term
part_names from i = cond (nat_lt i from) (names i) (At (term.Bound (i - from)))

part-lacks : (from m : ℕ) → from ≤ m → Lacks m (part_names from)
part-lacks from m h i = go (nat_lt i from) refl
  where
    go : (b : Bool) → nat_lt i from ≡ b → has_name m (cond b (names i) (At (term.Bound (i - from)))) ≡ false
    go true e = let lt : i < from = below_from i from e in ne_eqb m i (omega (arith, lt, h))
    go false e = refl

-- names from one on for so many indices
abbrev names_for : (n count : ℕ) → ℕ → Term
names_for n count j = cond (nat_lt j count) (names (n + j)) (At (term.Bound 0))

for-places : (n count : ℕ) → ArePlaces (names_for n count)
for-places n count j = go (nat_lt j count)
  where
    go : (b : Bool) → IsPlace (cond b (names (n + j)) (At (term.Bound 0)))
    go true = tt
    go false = tt

-- what levels stand for: below `from` their own names, and from there on the names from n on
abbrev pub Begins : (from n count : ℕ) → (ℕ → Term) → Type 0
Begins from n count env = ((i : ℕ) → i < from → env i ≡ names i) × ((j : ℕ) → j < count → env (from + j) ≡ names (n + j))

part-same : (from n count : ℕ) (env : ℕ → Term) → Begins from n count env → (i : ℕ) → i < from + count → sub (names_for n count) (part_names from i) ≡ env i
part-same from n count env w i h = go (nat_lt i from) refl
  where
    go : (b : Bool) → nat_lt i from ≡ b → sub (names_for n count) (cond b (names i) (At (term.Bound (i - from)))) ≡ env i
    go true e = sym (w.0 i (below_from i from e))
    go false e =
        let k : from ≤ i = above_from i from e in
        let q : from + (i - from) ≡ i = omega (arith, k) in
        ap (λ b. cond b (names (n + (i - from))) (At (term.Bound 0))) (below_true (i - from) count (omega (arith, h, k)))
        ∙ sym (w.1 (i - from) (omega (arith, h, k))) ∙ ap env q

read-part : (g : Graph) (t from n count : ℕ) (env : ℕ → Term) → IsSound g → IsValid g t (from + count) → Begins from n count env → read g t env ≡ sub (names_for n count) (read g t (part_names from))
read-part g t from n count env s v w =
    sym (read-follows g s t (part_names from) (names_for n count) (for-places n count)
    ∙ readings_local g t (from + count) (λ i. sub (names_for n count) (part_names from i)) env v (part-same from n count env w))

heads-agree : (from n m : ℕ) (ss : List Term) → from ≤ n → from ≤ m → AgreeLow from (λ h. fill (put_names n ss) (sub_head (names_for n (length ss)) h)) (λ h. fill (put_names m ss) (sub_head (names_for m (length ss)) h))
heads-agree from n m ss p q (term.Bound j) k = go (nat_lt j (length ss)) refl
  where
    go : (b : Bool) → nat_lt j (length ss) ≡ b → fill (put_names n ss) (cond b (names (n + j)) (At (term.Bound 0))) ≡ fill (put_names m ss) (cond b (names (m + j)) (At (term.Bound 0)))
    go true e = same-name n m j ss (below_from j (length ss) e)
    go false e = no-name n ss (term.Bound 0) (λ i. refl) ∙ sym (no-name m ss (term.Bound 0) (λ i. refl))
heads-agree from n m ss p q (term.Con c) k = no-name n ss (term.Con c) (λ i. refl) ∙ sym (no-name m ss (term.Con c) (λ i. refl))
heads-agree from n m ss p q (term.Int c) k = no-name n ss (term.Int c) (λ i. refl) ∙ sym (no-name m ss (term.Int c) (λ i. refl))
heads-agree from n m ss p q (term.Str c) k = no-name n ss (term.Str c) (λ i. refl) ∙ sym (no-name m ss (term.Str c) (λ i. refl))
heads-agree from n m ss p q (term.Var c) k = no-name n ss (term.Var c) (λ i. refl) ∙ sym (no-name m ss (term.Var c) (λ i. refl))
heads-agree from n m ss p q (term.Name c) k = low-name n c ss (omega (arith, k, p)) ∙ sym (low-name m c ss (omega (arith, k, q)))

-- terms in the places of the levels from one on are the same, whatever names stand for these
pub put-anywhere : (g : Graph) (t from n m : ℕ) (env other : ℕ → Term) (ss : List Term) → IsSound g → IsValid g t (from + length ss) → from ≤ n → from ≤ m → Begins from n (length ss) env → Begins from m (length ss) other →
    fill (put_names n ss) (read g t env) ≡ fill (put_names m ss) (read g t other)
put-anywhere g t from n m env other ss s v p q w z =
    ap (fill (put_names n ss)) (read-part g t from n (length ss) env s v w)
    ∙ fill-after (put_names n ss) (names_for n (length ss)) (read g t (part_names from))
    ∙ fill-low from (λ h. fill (put_names n ss) (sub_head (names_for n (length ss)) h)) (λ h. fill (put_names m ss) (sub_head (names_for m (length ss)) h)) (heads-agree from n m ss p q) (read g t (part_names from)) (λ i k. nameless-read i g t (part_names from) (part-lacks from i k))
    ∙ sym (ap (fill (put_names m ss)) (read-part g t from m (length ss) other s v z)
    ∙ fill-after (put_names m ss) (names_for m (length ss)) (read g t (part_names from)))

pub begins-own : (from count : ℕ) → Begins from from count names
begins-own from count = ((λ i h. refl), (λ j h. refl))

pub begins-renamed : (from n count : ℕ) (ls : List ℕ) → ((i : ℕ) → i < from → slice_index ls i ≡ i) → ((j : ℕ) → j < count → slice_index ls (from + j) ≡ n + j) → Begins from n count (renamed ls)
begins-renamed from n count ls own more = ((λ i h. ap names (own i h)), (λ j h. ap names (more j h)))

-- the renaming to them
pub stand-move : (from to count total : ℕ) (ls : List ℕ) → from ≤ to → total ≡ to + count → length ls ≡ from + count → ((i : ℕ) → i < from → slice_index ls i ≡ i) → ((j : ℕ) → j < count → slice_index ls (from + j) ≡ to + j) → IsMove ls from total
stand-move from to count total ls low e long own more = record {
  below = λ i h. go i (nat_lt i from) refl h;
  few = omega (arith, long);
  low = omega (arith, low, e);
  stay = own;
}
  where
    go : (i : ℕ) (b : Bool) → nat_lt i from ≡ b → i < length ls → slice_index ls i < total
    go i true q h = let lt = below_from i from q in subst (λ k. k < total) (sym (own i lt)) (omega (arith, lt, low, e))
    go i false q h =
        let k : from ≤ i = above_from i from q in
        let same : from + (i - from) ≡ i = omega (arith, k) in
        subst (λ z. z < total) (sym (ap (slice_index ls) (sym same) ∙ more (i - from) (omega (arith, h, k, long)))) (omega (arith, h, k, long, e))

-- one more name
pub more-old : (ls new : List ℕ) (n i : ℕ) → new ≡ ls ++ n ∷ [] → i < length ls → slice_index new i ≡ slice_index ls i
more-old ls new n i e h = ap (λ (zs : List ℕ). slice_index zs i) e ∙ get_or_append_left ls (n ∷ []) 0 i h

pub more-last : (ls new : List ℕ) (n i : ℕ) → new ≡ ls ++ n ∷ [] → i ≡ length ls → slice_index new i ≡ n
more-last ls new n i e h = ap₂ (λ (zs : List ℕ) (j : ℕ). slice_index zs j) e h ∙ get_or-append_seam ls n [] 0

pub more-long : (ls new : List ℕ) (n k : ℕ) → new ≡ ls ++ n ∷ [] → length ls ≡ k → length new ≡ k + 1
more-long ls new n k e h = let l = ap length e ∙ length-append ls (n ∷ []) in omega (arith, l, h)

pub more-names : (from to j : ℕ) (ls new : List ℕ) (n : ℕ) → new ≡ ls ++ n ∷ [] → n ≡ to + j → length ls ≡ from + j → ((i : ℕ) → i < j → slice_index ls (from + i) ≡ to + i) → (i : ℕ) → i < j + 1 → slice_index new (from + i) ≡ to + i
more-names from to j ls new n e q long w i h = go (nat_lt i j) refl
  where
    go : (b : Bool) → nat_lt i j ≡ b → slice_index new (from + i) ≡ to + i
    go true k = let lt = below_from i j k in more-old ls new n (from + i) e (omega (arith, lt, long)) ∙ w i lt
    go false k =
        let same : j ≡ i = (let l = above_from i j k in omega (arith, l, h)) in
        more-last ls new n (from + i) e (omega (arith, long, same)) ∙ q ∙ ap (λ z. to + z) same
