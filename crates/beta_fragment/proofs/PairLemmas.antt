-- Pairs of nodes whose readings are compared.
use Rattle.std.proofs.Common.{◌≡◌, ℕ, suc, ◌<◌, ◌≤◌, ◌+◌, ◌++◌, ◌↔◌, Bool, true, false, IsTrue, List, [], ◌∷◌, length, slice_index, Result, IfOk, option_map, Option, Some, None, IfSome, cond, nat_lt, refl, sym, ap, ap₂, ◌∙◌, arith, subst, append-nil, ne_eqb}
use Rattle.level_terms.specs.declared.node.Node.TheVariants.{Lam, App, Var}
use Rattle.level_terms.specs.declared.node.TermId.{TermId}
use Rattle.level_terms.specs.declared.node.VarId.{VarId}
use Rattle.level_terms.specs.Graph.{Graph, node_at, value_in}
use Rattle.level_terms.specs.Sound.{IsSound}
use Rattle.level_terms.specs.Valid.{IsValid}
use Rattle.level_terms.specs.Reading.{read}
use Rattle.level_terms.specs.Reached.{tree}
use Rattle.level_terms.proofs.LocalLemmas.{readings_local}
use Rattle.level_terms.proofs.NodeLemmas.{nodes_read, value-valid}
use Rattle.level_terms.proofs.TreeLemmas.{value_below}
use Rattle.level_terms.proofs.ValidLemmas.{valid_deeper}
use Rattle.ref_terms.specs.terms.Term as term
use Rattle.ref_terms.specs.terms.Term.{Term, At}
use Rattle.ref_terms.specs.terms.Apply.{apply}
use Rattle.ref_terms.specs.terms.Occurs.{has_name}
use Rattle.ref_terms.specs.unification.Closing.{close}
use Rattle.ref_terms.specs.unification.Spine.{apply_all}
use Rattle.ref_terms.specs.lemmas.NameLemmas.{close-apply}
use Rattle.beta_fragment.specs.Names.{names, renamed}
use Rattle.beta_fragment.specs.HeadForm.{AllValidAt, all_read}
use Rattle.beta_fragment.specs.Firm.{IsPlain}
use Rattle.beta_fragment.specs.Moves.{Lacks}
use Rattle.beta_fragment.specs.inside.Cells.{term_at, Gains, IsKept}
use Rattle.beta_fragment.proofs.CellLemmas.{kept-gains}
use Rattle.beta_fragment.specs.declared.equality.Pair.{Pair}
use Rattle.beta_fragment.specs.inside.Pairs.{IsValidPair, AllValidPairs, IsSame, AllSame, pairs_size, pairs_of, StandsFor, Divides, TurnsOut, IsValueOf}
use Rattle.beta_fragment.proofs.EnterLemmas.{names-places, body-entered, body-valid}
use Rattle.beta_fragment.proofs.FirmLemmas.{apply-plain, reads-value}
use Rattle.beta_fragment.proofs.MoveLemmas.{app-valid}
use Rattle.level_terms.proofs.MakeLemmas.{below_true}
use Rattle.beta_fragment.proofs.NamelessLemmas.{nameless-read}
use Rattle.level_terms.proofs.ReadLemmas.{read-built, valid-below}
use Rattle.beta_fragment.proofs.StayLemmas.{lam-stays, var-low}
use Rattle.beta_fragment.proofs.WorkLemmas.{size-some, total, lam-size}

-- one list of pairs after another
pub valid-append : (g : Graph) (xs ys : List Pair) → AllValidPairs g xs → AllValidPairs g ys → AllValidPairs g (xs ++ ys)
valid-append g [] ys v w = w
valid-append g (x ∷ xs) ys v w = (v.0, valid-append g xs ys v.1 w)

valid-front : (g : Graph) (xs ys : List Pair) → AllValidPairs g (xs ++ ys) → AllValidPairs g xs
valid-front g [] ys w = tt
valid-front g (x ∷ xs) ys w = (w.0, valid-front g xs ys w.1)

valid-back : (g : Graph) (xs ys : List Pair) → AllValidPairs g (xs ++ ys) → AllValidPairs g ys
valid-back g [] ys w = w
valid-back g (x ∷ xs) ys w = valid-back g xs ys w.1

pub same-append : (g : Graph) (xs ys : List Pair) → AllSame g xs → AllSame g ys → AllSame g (xs ++ ys)
same-append g [] ys v w = w
same-append g (x ∷ xs) ys v w = (v.0, same-append g xs ys v.1 w)

pub same-front : (g : Graph) (xs ys : List Pair) → AllSame g (xs ++ ys) → AllSame g xs
same-front g [] ys w = tt
same-front g (x ∷ xs) ys w = (w.0, same-front g xs ys w.1)

pub same-back : (g : Graph) (xs ys : List Pair) → AllSame g (xs ++ ys) → AllSame g ys
same-back g [] ys w = w
same-back g (x ∷ xs) ys w = same-back g xs ys w.1

pub size-append : (g : Graph) (xs ys : List Pair) → pairs_size g (xs ++ ys) ≡ pairs_size g xs + pairs_size g ys
size-append g [] ys = omega arith
size-append g (x ∷ xs) ys = let h = size-append g xs ys in omega (arith, h)

-- nodes that read the same have nothing left to compare
pub divides-none : (g : Graph) (p : Pair) (old : List Pair) → IsSame g p → Divides g p old old
divides-none g p old e = record {
  parts = [];
  pushed = sym (append-nil old);
  valid = tt;
  whole = λ w. e;
  each = λ w. tt;
  less = (let some = size-some (tree g p.left.index) in omega (arith, some));
}

pub divides-equal : (g : Graph) (p : Pair) (old : List Pair) → p.left.index ≡ p.right.index → Divides g p old old
divides-equal g p old e = divides-none g p old (ap (λ t. read g t names) e)

pub divides-one : (g : Graph) (p next : Pair) (old new : List Pair) → StandsFor g p next → new ≡ old ++ next ∷ [] → Divides g p old new
divides-one g p next old new s e = record {
  parts = next ∷ [];
  pushed = e;
  valid = (s.valid, tt);
  whole = λ w. s.whole w.0;
  each = λ w. (s.each w, tt);
  less = (let less = s.less in omega (arith, less));
}

pub decided : (g : Graph) (p : Pair) (old new : List Pair) (e : Bool) → new ≡ old → (IsTrue e ↔ IsSame g p) → TurnsOut g p old new e
decided g p old new true q w = subst (λ zs. Divides g p old zs) (sym q) (divides-none g p old (w.0 refl))
decided g p old new false q w = λ s. let k : false ≡ true = w.1 s in cc

-- the values of variables
pub value-of-var : (g : Graph) (t value : ℕ) (v : VarId) → IsSound g → node_at g.nodes t ≡ Some (Var v) → value_in g.assigned v.index ≡ Some value → IsValueOf g t value
value-of-var g t value v s e f = record {
  reads = reads-value g t value v s e f names names-places;
  valid = λ d h. valid_deeper g value _ d (value-valid g.nodes g.depths g.assigned s.valid v.index value f) (var-low g t v d s e h);
  less = value_below g s t v.index value v refl e f;
}

pub left-value : (g : Graph) (p : Pair) (r : TermId) → IsValidPair g p → IsValueOf g p.left.index r.index → StandsFor g p (record { left = r; right = p.right; depth = p.depth })
left-value g p r v w = record {
  valid = (w.valid p.depth v.0, v.1);
  whole = λ e. w.reads ∙ e;
  each = λ e. sym w.reads ∙ e;
  less = (let less = w.less in omega (arith, less));
}

pub right-value : (g : Graph) (p : Pair) (r : TermId) → IsValidPair g p → IsValueOf g p.right.index r.index → StandsFor g p (record { left = p.left; right = r; depth = p.depth })
right-value g p r v w = record {
  valid = (v.0, w.valid p.depth v.1);
  whole = λ e. e ∙ sym w.reads;
  each = λ e. e ∙ w.reads;
  less = (let less = w.less in omega (arith, less));
}

-- the bodies of abstractions: a name that isn't in the abstraction is found again in the body
abbrev low-names : ℕ → ℕ → Term
low-names d i = cond (nat_lt i d) (names i) (At (term.Bound 0))

low-lacks : (d : ℕ) → Lacks d (low-names d)
low-lacks d i = go (nat_lt i d) refl
  where
    go : (b : Bool) → nat_lt i d ≡ b → has_name d (cond b (names i) (At (term.Bound 0))) ≡ false
    go true e = let lt : i < d = grind (arith, e) in ne_eqb d i (omega (arith, lt))
    go false e = refl

lam-lacks : (g : Graph) (t d : ℕ) (b : TermId) (s : ℕ) → IsSound g → node_at g.nodes t ≡ Some (Lam d b) → IsValid g t s → has_name d (read g t names) ≡ false
lam-lacks g t d b s sound e v =
    ap (has_name d) (readings_local g t d names (low-names d) (lam-stays g t d b s sound e v) (λ i h. sym (ap (λ c. cond c (names i) (At (term.Bound 0))) (below_true i d h))))
    ∙ nameless-read d g t (low-names d) (low-lacks d)

lam-closed : (g : Graph) (t d : ℕ) (b : TermId) (s : ℕ) → IsSound g → node_at g.nodes t ≡ Some (Lam d b) → IsValid g t s → close d (read g b.index names) ≡ read g t names
lam-closed g t d b s sound e v = ap (close d) (body-entered g sound t d b e) ∙ close-apply d (read g t names) (read-built g t names) (lam-lacks g t d b s sound e v)

pub bodies-stand : (g : Graph) (p : Pair) (d d' n : ℕ) (b b' : TermId) → IsSound g → IsValidPair g p → node_at g.nodes p.left.index ≡ Some (Lam d b) → node_at g.nodes p.right.index ≡ Some (Lam d' b') → d ≡ d' → n ≡ suc d → StandsFor g p (record { left = b; right = b'; depth = n })
bodies-stand g p d d' n b b' sound v e f q deep =
    let f' : node_at g.nodes p.right.index ≡ Some (Lam d b') = f ∙ ap (λ k. Some (Lam k b')) (sym q) in
    let left = lam-size g p.left.index d b sound e in
    let right = lam-size g p.right.index d' b' sound f in
    record {
      valid = (subst (IsValid g b.index) (sym deep) (body-valid g sound p.left.index d b p.depth e v.0), subst (IsValid g b'.index) (sym deep) (body-valid g sound p.right.index d b' p.depth f' v.1));
      whole = λ w. sym (lam-closed g p.left.index d b p.depth sound e v.0) ∙ ap (close d) w ∙ lam-closed g p.right.index d b' p.depth sound f' v.1;
      each = λ w. body-entered g sound p.left.index d b e ∙ ap (λ u. apply u (names d)) w ∙ sym (body-entered g sound p.right.index d b' f');
      less = omega (arith, left, right);
    }

-- applications of terms that are no abstractions
pub spine-parts : (xs ys : List Term) (t u : Term) → length xs ≡ length ys → IsPlain t → IsPlain u → apply_all t xs ≡ apply_all u ys → (t ≡ u) × (xs ≡ ys)
spine-parts [] [] t u l v w e = (e, refl)
spine-parts [] (y ∷ ys) t u l v w e = absurd (omega (arith, l))
spine-parts (x ∷ xs) [] t u l v w e = absurd (omega (arith, l))
spine-parts (x ∷ xs) (y ∷ ys) t u l v w e =
    let rest = spine-parts xs ys (apply t x) (apply u y) (omega (arith, l)) (subst IsPlain (sym (apply-plain t x v)) tt) (subst IsPlain (sym (apply-plain u y w)) tt) e in
    let parts : term.App t x ≡ term.App u y = sym (apply-plain t x v) ∙ rest.0 ∙ apply-plain u y w in
    let heads : t ≡ u = cc in
    let firsts : x ≡ y = cc in
    (heads, ap₂ (λ (z : Term) (zs : List Term). z ∷ zs) firsts rest.1)

pub same-lists : (g : Graph) (d : ℕ) (ts us : List TermId) → length ts ≡ length us → AllSame g (pairs_of d ts us) → all_read g ts ≡ all_read g us
same-lists g d [] [] l w = refl
same-lists g d [] (u ∷ us) l w = absurd (omega (arith, l))
same-lists g d (t ∷ ts) [] l w = absurd (omega (arith, l))
same-lists g d (t ∷ ts) (u ∷ us) l w = ap₂ (λ (z : Term) (zs : List Term). z ∷ zs) w.0 (same-lists g d ts us (omega (arith, l)) w.1)

pub lists-same : (g : Graph) (d : ℕ) (ts us : List TermId) → all_read g ts ≡ all_read g us → AllSame g (pairs_of d ts us)
lists-same g d [] us e = tt
lists-same g d (t ∷ ts) [] e = tt
lists-same g d (t ∷ ts) (u ∷ us) e =
    let whole : read g t.index names ∷ all_read g ts ≡ read g u.index names ∷ all_read g us = e in
    let heads : read g t.index names ≡ read g u.index names = cc in
    let tails : all_read g ts ≡ all_read g us = cc in
    (heads, lists-same g d ts us tails)

pub lists-valid : (g : Graph) (d : ℕ) (ts us : List TermId) → AllValidAt g ts d → AllValidAt g us d → AllValidPairs g (pairs_of d ts us)
lists-valid g d [] us v w = tt
lists-valid g d (t ∷ ts) [] v w = tt
lists-valid g d (t ∷ ts) (u ∷ us) v w = ((v.0, w.0), lists-valid g d ts us v.1 w.1)

pub lists-size : (g : Graph) (d : ℕ) (ts us : List TermId) → pairs_size g (pairs_of d ts us) ≤ total g ts + total g us
lists-size g d [] us = omega arith
lists-size g d (t ∷ ts) [] = omega arith
lists-size g d (t ∷ ts) (u ∷ us) = let h = lists-size g d ts us in omega (arith, h)

-- nodes that are there
pub left-there : (g : Graph) (p : Pair) → IsValidPair g p → p.left.index < length g.nodes
left-there g p v = valid-below g p.left.index p.depth v.0

pub right-there : (g : Graph) (p : Pair) → IsValidPair g p → p.right.index < length g.nodes
right-there g p v = valid-below g p.right.index p.depth v.1

pub head-there : (g : Graph) (t d : ℕ) (k : TermId) (ts : List TermId) → IsSound g → node_at g.nodes t ≡ Some (App k ts) → IsValid g t d → k.index < length g.nodes
head-there g t d k ts s e v = valid-below g k.index d (app-valid g t d k ts s e v).0

-- what a variable's node stands for
pub value-found : (g : Graph) (t : ℕ) (v : VarId) (o : Option TermId) → IsSound g → node_at g.nodes t ≡ Some (Var v) → option_map (λ r. r.index) o ≡ value_in g.assigned v.index → IfSome o (λ r. IsValueOf g t r.index)
value-found g t v None s e f = tt
value-found g t v (Some r) s e f = value-of-var g t r.index v s e (sym f)

pub one-variable : (g : Graph) (p : Pair) (v : VarId) → IsSound g → node_at g.nodes p.left.index ≡ Some (Var v) → node_at g.nodes p.right.index ≡ Some (Var v) → IsSame g p
one-variable g p v s e f = nodes_read g p.left.index (Var v) names s names-places e ∙ sym (nodes_read g p.right.index (Var v) names s names-places f)

-- both nodes as terms that are kept
own-reads : (g : Graph) (t depth : ℕ) (ls : List ℕ) → IsValid g t depth → ((i : ℕ) → i < depth → slice_index ls i ≡ i) → read g t (renamed ls) ≡ read g t names
own-reads g t depth ls v own = readings_local g t depth (renamed ls) names v (λ i h. ap names (own i h))

pub wholes-told : {E : Type 0} (g : Graph) (p : Pair) (ls : List ℕ) (before after : List Term) (i j : ℕ) (r : Result Bool E) → IsValidPair g p → ((i : ℕ) → i < p.depth → slice_index ls i ≡ i) → Gains before after → IsKept before i (read g p.left.index (renamed ls)) → IsKept after j (read g p.right.index (renamed ls)) →
    IfOk r (λ e. IsTrue e ↔ (term_at after i ≡ term_at after j)) → IfOk r (λ e. IsTrue e ↔ IsSame g p)
wholes-told g p ls before after i j r v own gains left right told =
    let first : term_at after i ≡ read g p.left.index names = (kept-gains before after i (read g p.left.index (renamed ls)) gains left).term ∙ own-reads g p.left.index p.depth ls v.0 own in
    let second : term_at after j ≡ read g p.right.index names = right.term ∙ own-reads g p.right.index p.depth ls v.1 own in
    subst (λ (x : Term). IfOk r (λ e. IsTrue e ↔ (x ≡ read g p.right.index names))) first
    (subst (λ (y : Term). IfOk r (λ e. IsTrue e ↔ (term_at after i ≡ y))) second told)

-- a turn of the comparison, where the pair was the last of a list
module _ (g : Graph) (p : Pair) (work rest new : List Pair) (split : work ≡ rest ++ p ∷ []) where
  pub pair-valid : AllValidPairs g work → IsValidPair g p
  pair-valid w = (valid-back g rest (p ∷ []) (subst (AllValidPairs g) split w)).0

  pub turn-valid : AllValidPairs g work → Divides g p rest new → AllValidPairs g new
  turn-valid w l = subst (AllValidPairs g) (sym l.pushed) (valid-append g rest l.parts (valid-front g rest (p ∷ []) (subst (AllValidPairs g) split w)) l.valid)

  pub turn-whole : Divides g p rest new → AllSame g new → AllSame g work
  turn-whole l w =
      let v = subst (AllSame g) l.pushed w in
      subst (AllSame g) (sym split) (same-append g rest (p ∷ []) (same-front g rest l.parts v) (l.whole (same-back g rest l.parts v), tt))

  pub turn-each : Divides g p rest new → AllSame g work → AllSame g new
  turn-each l w =
      let v = subst (AllSame g) split w in
      subst (AllSame g) (sym l.pushed) (same-append g rest l.parts (same-front g rest (p ∷ []) v) (l.each (same-back g rest (p ∷ []) v).0))

  pub turn-differs : (IsSame g p → ⊥) → AllSame g work → ⊥
  turn-differs d w = d (same-back g rest (p ∷ []) (subst (AllSame g) split w)).0

  pub turn-falls : Divides g p rest new → pairs_size g new < pairs_size g work
  turn-falls l =
      let before = ap (pairs_size g) split ∙ size-append g rest (p ∷ []) in
      let after = ap (pairs_size g) l.pushed ∙ size-append g rest l.parts in
      let less = l.less in
      omega (arith, before, after, less)
