-- The head of a term with its arguments.
use Rattle.std.proofs.Common.{◌≡◌, ℕ, zero, suc, ◌<◌, ◌≤◌, ◌-◌, ◌+◌, ◌++◌, List, [], ◌∷◌, length, map, drop, take, reverse, slice_index, slice_get, cond, nat_eq, Bool, true, false, Some, None, refl, sym, ap, ap₂, ◌∙◌, arith, subst}
use Rattle.std.proofs.lemmas.List.{reverse-append, map-append}
use Rattle.level_terms.specs.declared.node.Node.TheVariants.{Lam}
use Rattle.level_terms.specs.declared.node.TermId.{TermId}
use Rattle.level_terms.specs.Graph.{Graph, node_at}
use Rattle.level_terms.specs.Laws.{ArePlaces}
use Rattle.level_terms.specs.Sound.{IsSound}
use Rattle.level_terms.specs.Reached.{tree, reaches}
use Rattle.level_terms.specs.Valid.{IsValid}
use Rattle.level_terms.specs.Reading.{read, enter}
use Rattle.level_terms.specs.Growth.{Grows}
use Rattle.level_terms.proofs.LocalLemmas.{readings_local}
use Rattle.level_terms.proofs.ValidLemmas.{growth_keeps_valid}
use Rattle.ref_terms.specs.terms.Term as term
use Rattle.ref_terms.specs.terms.Term.{Term, At}
use Rattle.ref_terms.specs.unification.Spine.{apply_all}
use Rattle.beta_fragment.specs.Names.{names, renamed, AllBelow}
use Rattle.beta_fragment.specs.HeadForm.{AllValidAt, all_read}
use Rattle.level_terms.specs.Values.{Value, value_of, IsVarOf, IsLamOf}
use Rattle.beta_fragment.specs.Moves.{Moves, moved, moved_level, AreLevelsOf, IsMove}
use Rattle.level_terms.proofs.ReadLemmas.{valid-below, grown-reads}
use Rattle.beta_fragment.proofs.EnterLemmas.{names-places}
use Rattle.std.specs.List.{list_all}
use Rattle.std.proofs.Common.{eqb-true}
use Rattle.std.proofs.lemmas.List.{length-map}
use Rattle.level_terms.specs.Valid.{valid}
use Rattle.level_terms.specs.Reading.{levels}
use Rattle.level_terms.proofs.LocalLemmas.{and_left, and_right, step_down}
use Rattle.level_terms.proofs.NodeLemmas.{nodes_read}
use Rattle.level_terms.proofs.CoverLemmas.{places-enter}
use Rattle.level_terms.proofs.ValidLemmas.{nodes_valid, valid_deeper}
use Rattle.ref_terms.specs.terms.Index.{shift}
use Rattle.ref_terms.specs.terms.Eta.{lam}
use Rattle.beta_fragment.specs.Firm.{IsSpine}
use Rattle.beta_fragment.proofs.EnterLemmas.{body-valid}
use Rattle.level_terms.proofs.MakeLemmas.{apply_all-append, below_true}
use Rattle.beta_fragment.proofs.StayLemmas.{lam-stays}
use Rattle.beta_fragment.proofs.VarLemmas.{levels-terms, levels-hold, levels-agree, enter-own, enter-other}
use Rattle.beta_fragment.proofs.MoveLemmas.{below_from}

pub renamed-places : (ls : List ℕ) → ArePlaces (renamed ls)
renamed-places ls i = tt

-- a node that was renamed
pub renamed-node : (g : Graph) (ls : List ℕ) (to t : ℕ) (x : Value) → IsValid g t (length ls) → Moves g ls to t (length ls) (length ls) x → x.term names ≡ read g t (renamed ls)
renamed-node g ls to t x v m = m.term names names-places ∙ readings_local g t (length ls) (moved ls (length ls) to names) (renamed ls) v same
  where
    same : (i : ℕ) → i < length ls → moved ls (length ls) to names i ≡ renamed ls i
    same i h = ap names (ap (λ b. cond b (slice_index ls i) (i - length ls + to)) (below_true i (length ls) h))

pub renamed-valid : (g : Graph) (ls : List ℕ) (to t : ℕ) (x : Value) → Moves g ls to t (length ls) (length ls) x → x.holds to ≡ true
renamed-valid g ls to t x m = m.holds to (omega arith)

-- lists of valid nodes
pub valid-each : (g : Graph) (d : ℕ) (ts : List TermId) (i : ℕ) (t : TermId) → AllValidAt g ts d → Some t ≡ slice_get ts i → IsValid g t.index d
valid-each g d [] i t w e = absurd (none-there t i e)
  where
    none-there : (t : TermId) (i : ℕ) → Some t ≡ slice_get [] i → ⊥
    none-there t i e = let q : Some t ≡ None = e in cc
valid-each g d (x ∷ ts) zero t w e = let q : t ≡ x = cc in subst (λ (z : TermId). IsValid g z.index d) (sym q) w.0
valid-each g d (x ∷ ts) (suc i) t w e = valid-each g d ts i t w.1 e

pub valid-grown_all : (g h : Graph) (d : ℕ) → IsSound g → Grows g h [] [] → (ts : List TermId) → AllValidAt g ts d → AllValidAt h ts d
valid-grown_all g h d s w [] v = tt
valid-grown_all g h d s w (t ∷ ts) v = (growth_keeps_valid g h [] [] t.index d s w (valid-below g t.index d v.0) v.0, valid-grown_all g h d s w ts v.1)

pub read-grown_all : (g h : Graph) (d : ℕ) → IsSound g → Grows g h [] [] → (ts : List TermId) → AllValidAt g ts d → all_read h ts ≡ all_read g ts
read-grown_all g h d s w [] v = refl
read-grown_all g h d s w (t ∷ ts) v = ap₂ (λ (x : Term) (xs : List Term). x ∷ xs) (ap (λ r. r names) (grown-reads g h s w t.index (valid-below g t.index d v.0))) (read-grown_all g h d s w ts v.1)

pub drop-get : (ts : List TermId) (i : ℕ) (t : TermId) → Some t ≡ slice_get ts i → drop i ts ≡ t ∷ drop (suc i) ts
drop-get [] i t e = absurd (none-there t i e)
  where
    none-there : (t : TermId) (i : ℕ) → Some t ≡ slice_get [] i → ⊥
    none-there t i e = let q : Some t ≡ None = e in cc
drop-get (x ∷ ts) zero t e = let q : t ≡ x = cc in ap (λ z. z ∷ ts) (sym q)
drop-get (x ∷ ts) (suc i) t e = drop-get ts i t e

pub drop-whole : (ts : List TermId) → drop (length ts) ts ≡ []
drop-whole [] = refl
drop-whole (t ∷ ts) = drop-whole ts

pub newest-arg : (args : List TermId) (r : TermId) → reverse (args ++ r ∷ []) ≡ r ∷ reverse args
newest-arg args r = reverse-append args (r ∷ [])

-- the first arguments of a variable
levels-valid : (g : Graph) (d : ℕ) (ts : List TermId) → list_all (λ (y : Value). y.holds d) (map (value_of g) ts) ≡ true → AllValidAt g ts d
levels-valid g d [] h = tt
levels-valid g d (t ∷ ts) h = (and_left _ _ h, levels-valid g d ts (and_right _ _ h))

terms-read : (g : Graph) (ts : List TermId) → map (λ (y : Value). y.term names) (map (value_of g) ts) ≡ all_read g ts
terms-read g [] = refl
terms-read g (t ∷ ts) = ap (λ (xs : List Term). read g t.index names ∷ xs) (terms-read g ts)

pub valid-append : (g : Graph) (d : ℕ) (xs ys : List TermId) → AllValidAt g xs d → AllValidAt g ys d → AllValidAt g (xs ++ ys) d
valid-append g d [] ys v w = w
valid-append g d (x ∷ xs) ys v w = (v.0, valid-append g d xs ys v.1 w)

moved-name : (ls : List ℕ) (to i : ℕ) → i < length ls → moved_level ls (length ls) to i ≡ slice_index ls i
moved-name ls to i h = ap (λ b. cond b (slice_index ls i) (i - length ls + to)) (below_true i (length ls) h)

pub flex-reads : (g h : Graph) (depth count : ℕ) (u : Term) (t v : ℕ) (ls : List ℕ) (args first list : List TermId) → IsSound g → Grows g h [] [] → IsVarOf v count (record { term = read g t; holds = valid g.nodes g.depths t; reached = λ v. reaches v (tree g t) }) → count ≤ length ls → AllBelow ls depth →
    AreLevelsOf ls (length ls) depth 0 (map (value_of h) first) → length first ≡ count → list ≡ first ++ reverse args → IsSpine g depth u t ls args →
    AllValidAt h list depth × (u ≡ apply_all (At (term.Var v)) (all_read h list))
flex-reads g h depth count u t v ls args first list sound w m few all levels_of long e spine =
    let long' : length (map (value_of h) first) ≡ count = length-map first (value_of h) ∙ long in
    let kept = read-grown_all g h depth sound w (reverse args) spine.valid in
    let firsts : all_read h first ≡ levels count (renamed ls) =
    sym (terms-read h first) ∙ levels-terms ls (length ls) depth 0 (map (value_of h) first) levels_of names names-places
    ∙ ap (λ n. levels n (λ i. moved ls (length ls) depth names (0 + i))) long'
    ∙ levels-agree count (λ i. moved ls (length ls) depth names (0 + i)) (renamed ls) (λ i k. ap names (ap (moved_level ls (length ls) depth) (let q : 0 + i ≡ i = omega arith in q) ∙ moved-name ls depth i (omega (arith, k, few)))) in (
      subst (λ ts. AllValidAt h ts depth) (sym e)
          (valid-append h depth first (reverse args)
          (levels-valid h depth first (levels-hold ls (length ls) depth 0 (map (value_of h) first) levels_of depth (λ i k. subst (λ l. l < depth) (sym (moved-name ls depth i (omega (arith, k, few, long')))) (all i (omega (arith, k, few, long'))))))
          (valid-grown_all g h depth sound w (reverse args) spine.valid)),
      spine.reads
          ∙ ap (λ f. apply_all f (all_read g (reverse args))) (m.term (renamed ls) (renamed-places ls))
          ∙ sym (apply_all-append (levels count (renamed ls)) (all_read g (reverse args)) (At (term.Var v)))
          ∙ ap (apply_all (At (term.Var v))) (ap₂ (λ (xs ys : List Term). xs ++ ys) (sym firsts) (sym kept) ∙ sym (map-append (λ (z : TermId). read h z.index names) first (reverse args)) ∙ ap (all_read h) (sym e)),
    )

-- abstractions
lam-low : (g : Graph) (t d : ℕ) (b : TermId) (s : ℕ) → IsSound g → node_at g.nodes t ≡ Some (Lam d b) → IsValid g t s → d ≤ s
lam-low g t d b s sound e v = let k : d < suc s = below_from d (suc s) (and_left _ _ (sym (nodes_valid g t (Lam d b) s sound e) ∙ v)) in omega (arith, k)

pub lam-within : (g : Graph) (t d : ℕ) (b : TermId) (s : ℕ) → IsSound g → node_at g.nodes t ≡ Some (Lam d b) → IsValid g t s → d ≤ s
lam-within g t d b s sound e v = lam-low g t d b s sound e v

pub lam-same : (g : Graph) (t made : ℕ) (b : TermId) (s fixed depth : ℕ) (ls : List ℕ) → IsSound g → node_at g.nodes t ≡ Some (Lam made b) → IsValid g t s → made ≤ fixed → IsMove ls fixed depth → read g t names ≡ read g t (renamed ls)
lam-same g t made b s fixed depth ls sound e v f m = readings_local g t made names (renamed ls) (lam-stays g t made b s sound e v) (λ i h. ap names (sym (m.stay i (omega (arith, h, f)))))

pub lam-same_valid : (g : Graph) (t made : ℕ) (b : TermId) (s fixed depth : ℕ) (ls : List ℕ) → IsSound g → node_at g.nodes t ≡ Some (Lam made b) → IsValid g t s → made ≤ fixed → IsMove ls fixed depth → IsValid g t depth
lam-same_valid g t made b s fixed depth ls sound e v f m = valid_deeper g t made depth (lam-stays g t made b s sound e v) (let low = m.low in omega (arith, f, low))

pub take-front : (ls more : List ℕ) (n i : ℕ) → n ≤ length ls → i < n → slice_index (take n ls ++ more) i ≡ slice_index ls i
take-front [] more n i f h = absurd (omega (arith, f, h))
take-front (x ∷ ls) more zero i f h = absurd (omega (arith, h))
take-front (x ∷ ls) more (suc n) zero f h = refl
take-front (x ∷ ls) more (suc n) (suc i) f h = take-front ls more n i (omega (arith, f)) (omega (arith, h))

pub take-next : (ls : List ℕ) (x n : ℕ) → n ≤ length ls → slice_index (take n ls ++ x ∷ []) n ≡ x
take-next ls x zero f = refl
take-next [] x (suc n) f = absurd (omega (arith, f))
take-next (y ∷ ls) x (suc n) f = take-next ls x n (omega (arith, f))

pub take-more : (ls : List ℕ) (x n : ℕ) → n ≤ length ls → length (take n ls ++ x ∷ []) ≡ suc n
take-more ls x zero f = refl
take-more [] x (suc n) f = absurd (omega (arith, f))
take-more (y ∷ ls) x (suc n) f = ap suc (take-more ls x n (omega (arith, f)))

pub lam-renamed : (g : Graph) (t made : ℕ) (b : TermId) (depth inner : ℕ) (ls more : List ℕ) (y x : Value) → IsSound g → node_at g.nodes t ≡ Some (Lam made b) → IsValid g t (length ls) → AllBelow ls depth → more ≡ take made ls ++ depth ∷ [] → inner ≡ depth + 1 →
    Moves g more inner b.index (length more) (length more) y → IsLamOf depth y x → (x.term names ≡ read g t (renamed ls)) × (x.holds depth ≡ true)
lam-renamed g t made b depth inner ls more y x sound e v all q r m w =
    let low = lam-low g t made b (length ls) sound e v in
    let long : length more ≡ suc made = ap length q ∙ take-more ls depth made low in (
      w.term names names-places
          ∙ ap lam (m.term (enter depth names) (places-enter depth names names-places)
          ∙ readings_local g b.index (suc made) (moved more (length more) inner (enter depth names)) (enter made (renamed ls)) (body-valid g sound t made b (length ls) e v) (same low long))
          ∙ sym (nodes_read g t (Lam made b) (renamed ls) sound (renamed-places ls) e),
      w.holds (m.holds (depth + 1) (omega (arith, r))) depth (omega arith),
    )
  where
    level : (i : ℕ) → i < length more → moved more (length more) inner (enter depth names) i ≡ enter depth names (slice_index more i)
    level i h = ap (enter depth names) (moved-name more inner i h)

    same : made ≤ length ls → length more ≡ suc made → (i : ℕ) → i < suc made → moved more (length more) inner (enter depth names) i ≡ enter made (renamed ls) i
    same low long i h = level i (omega (arith, h, long)) ∙ go (nat_eq made i) refl
      where
        go : (c : Bool) → nat_eq made i ≡ c → enter depth names (slice_index more i) ≡ cond c (At (term.Bound 0)) (shift (renamed ls i))
        go true k =
            let here : made ≡ i = eqb-true made i k in
            ap (enter depth names) (ap₂ (λ (zs : List ℕ) (j : ℕ). slice_index zs j) q (sym here) ∙ take-next ls depth made low) ∙ enter-own depth names
        go false k =
            let lt : i < made = step_down made i k h in
            ap (enter depth names) (ap (λ (zs : List ℕ). slice_index zs i) q ∙ take-front ls (depth ∷ []) made i low lt)
            ∙ enter-other depth names (slice_index ls i) (all i (omega (arith, lt, low)))
