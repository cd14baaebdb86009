-- Bodies with a term for their own name.
use Rattle.std.proofs.Common.{◌≡◌, ℕ, zero, suc, ◌<◌, ◌≤◌, ◌-◌, ◌+◌, List, [], length, slice_index, cond, nat_eq, nat_lt, Bool, true, false, Some, refl, sym, ap, ap₂, ◌∙◌, arith, subst, eqb-true, eq-eqb, ne_eqb}
use mathlib.Core.Path.{fun_ext}
use Rattle.level_terms.specs.declared.node.TermId.{TermId}
use Rattle.level_terms.specs.Graph.{Graph}
use Rattle.level_terms.specs.Laws.{IsPlace, ArePlaces}
use Rattle.level_terms.specs.Sound.{IsSound}
use Rattle.level_terms.specs.Valid.{IsValid}
use Rattle.level_terms.specs.Reading.{read, enter}
use Rattle.level_terms.proofs.LocalLemmas.{readings_local, step_down}
use Rattle.ref_terms.specs.terms.Term as term
use Rattle.ref_terms.specs.terms.Term.{Term, Head, At}
use Rattle.ref_terms.specs.terms.Index.{shift, under, sub, sub_head, first}
use Rattle.ref_terms.specs.terms.Eta.{lam}
use Rattle.ref_terms.specs.terms.Apply.{apply, below, fill, opened, open_with}
use Rattle.ref_terms.specs.terms.Occurs.{is_name, has_name}
use Rattle.ref_terms.specs.lemmas.ComposeLemmas.{fill-shift}
use Rattle.ref_terms.specs.lemmas.NameLemmas.{fill-agree_names}
use Rattle.beta_fragment.specs.Names.{names, renamed}
use Rattle.beta_fragment.specs.Body.{at_name, opened_reads}
use Rattle.level_terms.specs.Values.{value_of}
use Rattle.beta_fragment.specs.Moves.{Puts, around, put_name, Lacks}
use Rattle.beta_fragment.specs.Quoted.{AllHeads, IsOpenHead, put_head}
use Rattle.beta_fragment.specs.inside.Settled.{IsQuotable}
use Rattle.level_terms.proofs.ReadLemmas.{read-follows}
use Rattle.beta_fragment.proofs.EnterLemmas.{entered, first-places}
use Rattle.level_terms.proofs.MakeLemmas.{below_true}
use Rattle.beta_fragment.proofs.MoveLemmas.{below_false}
use Rattle.beta_fragment.proofs.NamelessLemmas.{lacks-enter, nameless-read}
use Rattle.beta_fragment.proofs.QuotableLemmas.{quotable-spine}

-- replacing heads after replacing indices, by heads alone
below-after : (r : Head → Term) (s : ℕ → Term) (h : Head) → fill (below r) (sub_head (under s) h) ≡ below (λ k. fill r (sub_head s k)) h
below-after r s (term.Bound zero) = refl
below-after r s (term.Bound (suc n)) = fill-shift r (s n)
below-after r s (term.Con c) = refl
below-after r s (term.Int c) = refl
below-after r s (term.Str c) = refl
below-after r s (term.Name c) = refl
below-after r s (term.Var c) = refl

pub fill-after : (r : Head → Term) (s : ℕ → Term) (t : Term) → fill r (sub s t) ≡ fill (λ h. fill r (sub_head s h)) t
fill-after r s (term.Lam b) = ap lam (fill-after (below r) (under s) b ∙ ap (λ (q : Head → Term). fill q b) (fun_ext (below-after r s)))
fill-after r s (At h) = refl
fill-after r s (term.App f a) = ap₂ apply (fill-after r s f) (fill-after r s a)

-- opening is naming the body's own name, and putting the term in the name's place
heads-open : (n : ℕ) (s : Term) (h : Head) → is_name n h ≡ false → fill (put_name n s) (sub_head (first (At (term.Name n))) h) ≡ opened s h
heads-open n s (term.Bound zero) e = ap (λ b. cond b s (At (term.Name n))) (eq-eqb n n refl)
heads-open n s (term.Bound (suc i)) e = refl
heads-open n s (term.Con c) e = refl
heads-open n s (term.Int c) e = refl
heads-open n s (term.Str c) e = refl
heads-open n s (term.Var c) e = refl
heads-open n s (term.Name c) e = ap (λ b. cond b s (At (term.Name c))) e

named-open : (n : ℕ) (s b : Term) → has_name n b ≡ false → fill (put_name n s) (sub (first (At (term.Name n))) b) ≡ open_with b s
named-open n s b e = fill-after (put_name n s) (first (At (term.Name n))) b ∙ fill-agree_names n (λ h. fill (put_name n s) (sub_head (first (At (term.Name n))) h)) (opened s) (heads-open n s) b e

-- the names below a depth alone
abbrev pub low_names : ℕ → ℕ → Term
low_names depth i = cond (nat_lt i depth) (names i) (At (term.Bound 0))

low-places : (depth : ℕ) → ArePlaces (low_names depth)
low-places depth i = go (nat_lt i depth)
  where
    go : (b : Bool) → IsPlace (cond b (names i) (At (term.Bound 0)))
    go true = tt
    go false = tt

pub low-lack : (depth : ℕ) → Lacks depth (low_names depth)
low-lack depth i = go (nat_lt i depth) refl
  where
    go : (b : Bool) → nat_lt i depth ≡ b → has_name depth (cond b (names i) (At (term.Bound 0))) ≡ false
    go true e = let lt : i < depth = grind (arith, e) in ne_eqb depth i (omega (arith, lt))
    go false e = refl

pub low-same : (depth i : ℕ) → i < depth → names i ≡ low_names depth i
low-same depth i h = sym (ap (λ b. cond b (names i) (At (term.Bound 0))) (below_true i depth h))

around-same : (depth i : ℕ) → i < suc depth → around depth (low_names depth) i ≡ names i
around-same depth i h = go (nat_eq depth i) refl
  where
    go : (b : Bool) → nat_eq depth i ≡ b → around depth (low_names depth) i ≡ names i
    go true e =
        let same : depth ≡ i = eqb-true depth i e in
        ap₂ (λ b c. cond b (low_names depth i) (cond c (At (term.Name depth)) (low_names depth (i - 1)))) (below_false i depth (omega (arith, same))) (eq-eqb i depth (sym same)) ∙ ap names same
    go false e =
        let lt = step_down depth i e h in
        ap (λ b. cond b (low_names depth i) (cond (nat_eq i depth) (At (term.Name depth)) (low_names depth (i - 1)))) (below_true i depth lt) ∙ sym (low-same depth i lt)

body-low : (depth made i : ℕ) → made ≤ depth → i < suc made → enter made names i ≡ enter made (low_names depth) i
body-low depth made i low h = go (nat_eq made i) refl
  where
    go : (b : Bool) → nat_eq made i ≡ b → cond b (At (term.Bound 0)) (shift (names i)) ≡ cond b (At (term.Bound 0)) (shift (low_names depth i))
    go true e = refl
    go false e = let lt = step_down made i e h in ap shift (low-same depth i (omega (arith, lt, low)))

-- a node in the place of the name of the depth, put by a walk
pub puts-reads : (g h : Graph) (depth : ℕ) (t put r : TermId) → IsValid g put.index depth → IsValid g t.index (depth + 1) → Puts g (read g put.index) depth t.index (depth + 1) (value_of h r) →
    read h r.index names ≡ fill (put_name depth (read g put.index names)) (read g t.index names)
puts-reads g h depth t put r vp vt m =
    readings_local h r.index depth names (low_names depth) (m.holds depth (omega arith)) (λ i q. low-same depth i q)
    ∙ m.term (low_names depth) (low-places depth) (low-lack depth)
    ∙ ap₂ (λ (s b : Term). fill (put_name depth s) b)
    (sym (readings_local g put.index depth names (low_names depth) vp (λ i q. low-same depth i q)))
    (readings_local g t.index (depth + 1) (around depth (low_names depth)) names vt (λ i q. around-same depth i (omega (arith, q))))

pub puts-valid : (g h : Graph) (depth : ℕ) (t put r : TermId) → Puts g (read g put.index) depth t.index (depth + 1) (value_of h r) → IsValid h r.index depth
puts-valid g h depth t put r m = m.holds depth (omega arith)

-- a body with a node in the place of its own name
pub filled-reads : (g h k : Graph) (depth made : ℕ) (body arg node r : TermId) → IsSound g → made ≤ depth → IsValid g body.index (suc made) →
    read h node.index names ≡ read g body.index (at_name made depth) → (read h arg.index ≡ read g arg.index) → read k r.index names ≡ fill (put_name depth (read h arg.index names)) (read h node.index names) →
    read k r.index names ≡ opened_reads g made body.index (read g arg.index names)
filled-reads g h k depth made body arg node r sg low vb reads same filled =
    let named : read g body.index (at_name made depth) ≡ sub (first (names depth)) (read g body.index (enter made names)) =
    ap (read g body.index) (fun_ext (λ i. sym (entered made (names depth) names i))) ∙ sym (read-follows g sg body.index (enter made names) (first (names depth)) (first-places (names depth) tt)) in
    let lacks : has_name depth (read g body.index (enter made names)) ≡ false =
    ap (has_name depth) (readings_local g body.index (suc made) (enter made names) (enter made (low_names depth)) vb (λ i q. body-low depth made i low q))
    ∙ nameless-read depth g body.index (enter made (low_names depth)) (lacks-enter depth made (low_names depth) (low-lack depth)) in
    filled
    ∙ ap₂ (λ (s b : Term). fill (put_name depth s) b) (ap (λ f. f names) same) (reads ∙ named)
    ∙ named-open depth (read g arg.index names) (read g body.index (enter made names)) lacks

-- levels that stand for their own names
own-read : (g : Graph) (t inner : ℕ) (ls : List ℕ) → IsValid g t inner → ((i : ℕ) → i < inner → slice_index ls i ≡ i) → read g t (renamed ls) ≡ read g t names
own-read g t inner ls v own = readings_local g t inner (renamed ls) names v (λ i h. ap names (own i h))

-- a node that was kept by its parts can be quoted, and reads as what is quoted
pub reduced-quotable : (g : Graph) (depth inner t : ℕ) (ls slice : List ℕ) (x : Term) → IsSound g → IsValid g t (depth + 1) → inner ≡ depth + 1 → length ls ≡ inner → ((i : ℕ) → i < inner → slice_index ls i ≡ i) → slice ≡ ls →
    x ≡ read g t (renamed slice) → AllHeads (IsOpenHead g) x → IsQuotable g (suc depth) x
reduced-quotable g depth inner t ls slice x s v e long own q reads heads =
    quotable-spine g (suc depth) t ls [] x s
    (subst (IsValid g t) (let k : depth + 1 ≡ length ls = omega (arith, e, long) in k) v)
    (λ i h. (let lt : i < inner = omega (arith, h, long) in let here = own i lt in omega (arith, here, lt, e)))
    tt (reads ∙ ap (λ (zs : List ℕ). read g t (renamed zs)) q) heads

pub reduced-reads : (g h : Graph) (depth inner : ℕ) (t put r : TermId) (ls slice : List ℕ) (x : Term) → IsValid g t.index (depth + 1) → inner ≡ depth + 1 → ((i : ℕ) → i < inner → slice_index ls i ≡ i) → slice ≡ ls →
    x ≡ read g t.index (renamed slice) → read h r.index names ≡ fill (put_head g depth (Some put)) x → read h r.index names ≡ fill (put_name depth (read g put.index names)) (read g t.index names)
reduced-reads g h depth inner t put r ls slice x v e own q reads quoted =
    quoted ∙ ap (fill (put_name depth (read g put.index names)))
    (reads ∙ ap (λ (zs : List ℕ). read g t.index (renamed zs)) q ∙ own-read g t.index inner ls (subst (IsValid g t.index) (sym e) v) own)
