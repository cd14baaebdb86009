-- What nodes read as under abstractions.
use Rattle.std.proofs.Common.{◌≡◌, ℕ, zero, suc, ◌<◌, ◌+◌, ◌-◌, List, [], ◌∷◌, length, map, cond, nat_eq, nat_lt, Bool, true, false, Option, Some, None, refl, sym, ap, ap₂, ◌∙◌, arith, subst, ne_eqb}
use Rattle.std.specs.List.{list_all}
use Rattle.level_terms.specs.declared.node.Node.{Node}
use Rattle.level_terms.specs.declared.node.TermId.{TermId}
use Rattle.level_terms.specs.Graph.{Graph, node_at}
use Rattle.level_terms.specs.Laws.{ArePlaces}
use Rattle.level_terms.specs.Sound.{IsSound}
use Rattle.level_terms.specs.Valid.{valid, IsValid, layer_valid}
use Rattle.level_terms.specs.Layer.{layer_of}
use Rattle.level_terms.specs.Reached.{Leaf, layer_tree, node_tree}
use Rattle.level_terms.specs.Reading.{read, enter, node_reads}
use Rattle.level_terms.specs.Growth.{Grows}
use Rattle.level_terms.proofs.CoverLemmas.{places-enter}
use Rattle.level_terms.proofs.LocalLemmas.{HasNoIndex, readings_local}
use Rattle.level_terms.proofs.NodeLemmas.{nodes_read}
use Rattle.level_terms.proofs.ValidLemmas.{nodes_valid, valid_deeper, growth_keeps_valid}
use Rattle.ref_terms.specs.terms.Term as term
use Rattle.ref_terms.specs.terms.Term.{Term, Head, At}
use Rattle.ref_terms.specs.terms.Index.{shift, next}
use Rattle.ref_terms.specs.terms.Eta.{lam}
use Rattle.ref_terms.specs.terms.Apply.{fill}
use Rattle.ref_terms.specs.terms.Occurs.{is_name, has_name, occurs}
use Rattle.ref_terms.specs.unification.Spine.{apply_all}
use Rattle.ref_terms.specs.lemmas.TermLemmas.{ren_sub}
use Rattle.ref_terms.specs.lemmas.NameLemmas.{nat_eq_self, or_left, or_right}
use Rattle.beta_fragment.specs.Names.{names}
use Rattle.beta_fragment.specs.declared.answer.RigidHead.{RigidHead}
use Rattle.beta_fragment.specs.HeadForm.{rigid_head}
use Rattle.level_terms.specs.Values.{Value, value_of, AllMiss, IsLamOf, IsAppOf, IsLevelOf, IsVarOf}
use Rattle.beta_fragment.specs.Moves.{put_name}
use Rattle.beta_fragment.specs.Quoted.{AllNamesBelow, put_head, names_with, IsValidIfAny}
use Rattle.beta_fragment.specs.inside.Quoting.{within, heads_below, KeepsHeads, Quotes, IsHeadOf, Setting, heads_of, AllQuote, app_to, items_of}
use Rattle.level_terms.proofs.ReadLemmas.{read-follows, valid-below, grown-reads}
use Rattle.beta_fragment.proofs.EnterLemmas.{names-places}
use Rattle.beta_fragment.proofs.VarLemmas.{enter-own, enter-other}
use Rattle.level_terms.proofs.MakeLemmas.{and_both, newest}
use Rattle.beta_fragment.proofs.MoveLemmas.{above_from, below_from}
use Rattle.beta_fragment.proofs.QuotableLemmas.{nameless-valid}
use Rattle.level_terms.proofs.ReachLemmas.{leaf-misses}

-- what the levels stand for
pub within-places : (depth k : ℕ) → ArePlaces (within depth k)
within-places depth zero = names-places
within-places depth (suc k) = places-enter (depth + k) (within depth k) (within-places depth k)

within-name : (depth k n : ℕ) → n < depth → within depth k n ≡ names n
within-name depth zero n h = refl
within-name depth (suc k) n h = enter-other (depth + k) (within depth k) n (omega (arith, h)) ∙ ap shift (within-name depth k n h)

within-index : (depth k i l : ℕ) → i < k → l + suc i ≡ depth + k → within depth k l ≡ At (term.Bound i)
within-index depth zero i l h e = absurd (omega (arith, h))
within-index depth (suc k) zero l h e =
    let same : l ≡ depth + k = omega (arith, e) in
    ap (enter (depth + k) (within depth k)) same ∙ enter-own (depth + k) (within depth k)
within-index depth (suc k) (suc i) l h e =
    enter-other (depth + k) (within depth k) l (omega (arith, e)) ∙ ap shift (within-index depth k i l (omega (arith, h)) (omega (arith, e)))

-- the terms for heads
heads-index : (r : Head → Term) (k i : ℕ) → i < k → heads_below k r (term.Bound i) ≡ At (term.Bound i)
heads-index r zero i h = absurd (omega (arith, h))
heads-index r (suc k) zero h = refl
heads-index r (suc k) (suc i) h = ap shift (heads-index r k i (omega (arith, h)))

-- no index
abbrev pub IsClosedHead : Head → Type 0
IsClosedHead (term.Bound i) = ⊥
IsClosedHead _ = Unit {0}

no_index-head : (h : Head) → IsClosedHead h → HasNoIndex (At h)
no_index-head (term.Con c) w f = refl
no_index-head (term.Int c) w f = refl
no_index-head (term.Str c) w f = refl
no_index-head (term.Name c) w f = refl
no_index-head (term.Var c) w f = refl
no_index-head (term.Bound c) w f = absurd w

heads-closed : (r : Head → Term) (k : ℕ) (h : Head) (x : Term) → IsClosedHead h → HasNoIndex x → r h ≡ x → heads_below k r h ≡ x
heads-closed r zero h x n w e = e
heads-closed r (suc k) (term.Con c) x n w e = ap shift (heads-closed r k (term.Con c) x n w e) ∙ w next
heads-closed r (suc k) (term.Int c) x n w e = ap shift (heads-closed r k (term.Int c) x n w e) ∙ w next
heads-closed r (suc k) (term.Str c) x n w e = ap shift (heads-closed r k (term.Str c) x n w e) ∙ w next
heads-closed r (suc k) (term.Name c) x n w e = ap shift (heads-closed r k (term.Name c) x n w e) ∙ w next
heads-closed r (suc k) (term.Var c) x n w e = ap shift (heads-closed r k (term.Var c) x n w e) ∙ w next
heads-closed r (suc k) (term.Bound c) x n w e = absurd n

put-keeps : (g : Graph) (depth : ℕ) (put : Option TermId) (h : Head) → is_name depth h ≡ false → put_head g depth put h ≡ At h
put-keeps g depth None h e = refl
put-keeps g depth (Some r) h e = ap (λ b. cond b (read g r.index names) (At h)) e

-- a head that is no level and no index
pub quotes-head : (g : Graph) (depth : ℕ) (put : Option TermId) (k : ℕ) (h : Head) (x : Value) → IsClosedHead h → is_name depth h ≡ false → IsHeadOf h x → Quotes (put_head g depth put) depth k (At h) x
quotes-head g depth put k h x n e m = record {
  reads = m.term (within depth k) (within-places depth k) ∙ sym (heads-closed (put_head g depth put) k h (At h) n (no_index-head h n) (put-keeps g depth put h e));
  holds = m.holds (depth + k);
  misses = λ keeps v a. m.misses v a;
}

pub head-made : (h : Graph) (r : TermId) (n : Node) (u : Head) → IsSound h → node_at h.nodes r.index ≡ Some n → ((env : ℕ → Term) → node_reads h n env ≡ At u) → ((e : ℕ) → layer_valid h.depths (layer_of (valid h.nodes h.depths) n) e ≡ true) → layer_tree (layer_of (node_tree h.nodes) n) ≡ Leaf →
    IsHeadOf u (value_of h r)
head-made h r n u s at reads holds leaf = record {
  term = λ env p. nodes_read h r.index n env s p at ∙ reads env;
  holds = λ e. nodes_valid h r.index n e s at ∙ holds e;
  misses = λ v a. leaf-misses h r.index n v s at leaf;
}

-- the node that was made last
pub at-made : (g h : Graph) (n : Node) (r : TermId) → r.index ≡ length g.nodes → h ≡ record g { nodes = n ∷ g.nodes } → node_at h.nodes r.index ≡ Some n
at-made g h n r e made = ap₂ (λ (ns : List Node) (i : ℕ). node_at ns i) (λ i. (made i).nodes) e ∙ newest n g.nodes

pub var-head : (v : ℕ) (x : Value) → IsVarOf v 0 x → IsHeadOf (term.Var v) x
var-head v x m = record { term = m.term; holds = λ e. m.holds e (omega arith); misses = m.misses }

-- a level
pub name-below : (k n : ℕ) → AllNamesBelow k (At (term.Name n)) → n < k
name-below k n w = go (nat_lt n k) refl
  where
    go : (b : Bool) → nat_lt n k ≡ b → n < k
    go true e = below_from n k e
    go false e = absurd (let q : nat_eq n n ≡ false = w n (above_from n k e) in let z : true ≡ false = sym (nat_eq_self n) ∙ q in cc)

pub quotes-level : (g : Graph) (depth : ℕ) (put : Option TermId) (k n : ℕ) (x : Value) → n < depth → IsLevelOf n x → Quotes (put_head g depth put) depth k (At (term.Name n)) x
quotes-level g depth put k n x h m = record {
  reads = m.term (within depth k) (within-places depth k) ∙ within-name depth k n h
      ∙ sym (heads-closed (put_head g depth put) k (term.Name n) (At (term.Name n)) tt (no_index-head (term.Name n) tt) (put-keeps g depth put (term.Name n) (ne_eqb depth n (omega (arith, h)))));
  holds = m.holds (depth + k) (omega (arith, h));
  misses = λ keeps v a. m.misses v;
}

-- a reading at names has no free index
no_index-read : (g : Graph) → IsSound g → (t : ℕ) → HasNoIndex (read g t names)
no_index-read g s t f = ren_sub f (read g t names) ∙ read-follows g s t names (λ i. At (term.Bound (f i))) (λ i. tt)

pub quotes-put : (g : Graph) (depth k : ℕ) (r : TermId) → IsSound g → IsValid g r.index depth → Quotes (put_head g depth (Some r)) depth k (At (term.Name depth)) (value_of g r)
quotes-put g depth k r s v = record {
  reads = readings_local g r.index depth (within depth k) names v (λ i h. within-name depth k i h)
      ∙ sym (heads-closed (put_head g depth (Some r)) k (term.Name depth) (read g r.index names) tt (no_index-read g s r.index) (ap (λ b. cond b (read g r.index names) (At (term.Name depth))) (nat_eq_self depth)));
  holds = valid_deeper g r.index depth (depth + k) v (omega arith);
  misses = λ keeps w a.
      let here : read g r.index names ≡ At (term.Name depth) = sym (ap (λ b. cond b (read g r.index names) (At (term.Name depth))) (nat_eq_self depth)) ∙ keeps (term.Name depth) in
      let none = nameless-valid depth g r.index depth names v (λ i h. ne_eqb depth i (omega (arith, h))) in
      absurd (let z : true ≡ false = sym (nat_eq_self depth) ∙ sym (ap (has_name depth) here) ∙ none in cc);
}

-- a bound index
pub quotes-index : (r : Head → Term) (depth k i l : ℕ) (x : Value) → i < k → l ≡ depth + (k - 1 - i) → IsLevelOf l x → Quotes r depth k (At (term.Bound i)) x
quotes-index r depth k i l x h e m = record {
  reads = m.term (within depth k) (within-places depth k) ∙ within-index depth k i l h (omega (arith, h, e)) ∙ sym (heads-index r k i h);
  holds = m.holds (depth + k) (omega (arith, h, e));
  misses = λ keeps v a. m.misses v;
}

-- an abstraction
pub quotes-lam : (r : Head → Term) (depth k l : ℕ) (b : Term) (y x : Value) → l ≡ depth + k → Quotes r depth (suc k) b y → IsLamOf l y x → Quotes r depth k (term.Lam b) x
quotes-lam r depth k l b y x e m w =
    let made : IsLamOf (depth + k) y x = subst (λ d. IsLamOf d y x) e w in
    record {
      reads = made.term (within depth k) (within-places depth k) ∙ ap lam m.reads;
      holds = made.holds (subst (λ d. y.holds d ≡ true) (let q : depth + suc k ≡ depth + k + 1 = omega arith in q) m.holds) (depth + k) (omega arith);
      misses = λ keeps v a. made.misses v (m.misses keeps v a);
    }

-- an application
fill-app : (r : Head → Term) (xs : List Term) (f : Term) → fill r (app_to f xs) ≡ apply_all (fill r f) (map (fill r) xs)
fill-app r [] f = refl
fill-app r (x ∷ xs) f = fill-app r xs (term.App f x)

args-read : (s : Setting) (k : ℕ) (xs : List Term) (ys : List Value) → AllQuote s (items_of k xs) ys → map (λ (y : Value). y.term (within s.depth k)) ys ≡ map (fill (heads_below k (heads_of s))) xs
args-read s k [] [] w = refl
args-read s k (x ∷ xs) [] w = absurd w
args-read s k [] (y ∷ ys) w = absurd w
args-read s k (x ∷ xs) (y ∷ ys) w = ap₂ (λ (z : Term) (zs : List Term). z ∷ zs) w.0.reads (args-read s k xs ys w.1)

args-hold : (s : Setting) (k : ℕ) (xs : List Term) (ys : List Value) → AllQuote s (items_of k xs) ys → list_all (λ (y : Value). y.holds (s.depth + k)) ys ≡ true
args-hold s k [] [] w = refl
args-hold s k (x ∷ xs) [] w = absurd w
args-hold s k [] (y ∷ ys) w = absurd w
args-hold s k (x ∷ xs) (y ∷ ys) w = and_both (y.holds (s.depth + k)) _ w.0.holds (args-hold s k xs ys w.1)

-- what an application lacks its parts lack
abbrev pub AllLack : (v : ℕ) → List Term → Type 0
AllLack v [] = Unit {0}
AllLack v (x ∷ xs) = (occurs v x ≡ false) × AllLack v xs

app-lacks : (v : ℕ) (xs : List Term) (f : Term) → occurs v (app_to f xs) ≡ false → (occurs v f ≡ false) × AllLack v xs
app-lacks v [] f e = (e, tt)
app-lacks v (x ∷ xs) f e = let r = app-lacks v xs (term.App f x) e in (or_left _ _ r.0, (or_right _ _ r.0, r.1))

args-miss : (s : Setting) (v k : ℕ) (xs : List Term) (ys : List Value) → KeepsHeads (heads_of s) → AllLack v xs → AllQuote s (items_of k xs) ys → AllMiss v ys
args-miss s v k [] [] h a w = tt
args-miss s v k (x ∷ xs) [] h a w = absurd w
args-miss s v k [] (y ∷ ys) h a w = absurd w
args-miss s v k (x ∷ xs) (y ∷ ys) h a w = (w.0.misses h v a.0, args-miss s v k xs ys h a.1 w.1)

pub quotes-app : (s : Setting) (k : ℕ) (f : Term) (xs : List Term) (h x : Value) (ys : List Value) → Quotes (heads_of s) s.depth k f h → AllQuote s (items_of k xs) ys → IsAppOf h ys x → Quotes (heads_of s) s.depth k (app_to f xs) x
quotes-app s k f xs h x ys m ms w = record {
  reads = w.term (within s.depth k) (within-places s.depth k) ∙ ap₂ apply_all m.reads (args-read s k xs ys ms) ∙ sym (fill-app (heads_below k (heads_of s)) xs f);
  holds = w.holds (s.depth + k) m.holds (args-hold s k xs ys ms);
  misses = λ keeps v a. let parts = app-lacks v xs f a in w.misses v (m.misses keeps v parts.0) (args-miss s v k xs ys keeps parts.1 ms);
}

-- as the heap grows
pub put-grown : (g h : Graph) (depth : ℕ) (put : Option TermId) → IsSound g → Grows g h [] [] → IsValidIfAny g put depth → put_head g depth put ≡ put_head h depth put
put-grown g h depth None s w v = refl
put-grown g h depth (Some r) s w v = ap (λ (f : (ℕ → Term) → Term). put_name depth (f names)) (sym (grown-reads g h s w r.index (valid-below g r.index depth v)))

pub any-grown : (g h : Graph) (depth : ℕ) (put : Option TermId) → IsSound g → Grows g h [] [] → IsValidIfAny g put depth → IsValidIfAny h put depth
any-grown g h depth None s w v = tt
any-grown g h depth (Some r) s w v = growth_keeps_valid g h [] [] r.index depth s w (valid-below g r.index depth v) v

-- a name other than that of the depth lies below it
pub low-some : (depth n : ℕ) (put : Option TermId) (r : TermId) → put ≡ Some r → (n ≡ depth → ⊥) → AllNamesBelow (names_with depth put) (At (term.Name n)) → n < depth
low-some depth n put r e other w =
    let k : n < suc depth = name-below (suc depth) n (subst (λ (o : Option TermId). AllNamesBelow (names_with depth o) (At (term.Name n))) e w) in
    omega (arith, k, other)

pub low-none : (depth n : ℕ) (put : Option TermId) → put ≡ None → AllNamesBelow (names_with depth put) (At (term.Name n)) → n < depth
low-none depth n put e w = name-below depth n (subst (λ (o : Option TermId). AllNamesBelow (names_with depth o) (At (term.Name n))) e w)

pub quotes-put_at : (g : Graph) (depth k n : ℕ) (put : Option TermId) (r : TermId) → IsSound g → put ≡ Some r → n ≡ depth → IsValidIfAny g put depth → Quotes (put_head g depth put) depth k (At (term.Name n)) (value_of g r)
quotes-put_at g depth k n put r s e same v =
    subst (λ (o : Option TermId). Quotes (put_head g depth o) depth k (At (term.Name n)) (value_of g r)) (sym e)
    (subst (λ (i : ℕ). Quotes (put_head g depth (Some r)) depth k (At (term.Name i)) (value_of g r)) (sym same)
    (quotes-put g depth k r s (subst (λ (o : Option TermId). IsValidIfAny g o depth) e v)))

-- a head that no assignment changes, and that is no level
pub quotes-rigid : (g : Graph) (depth : ℕ) (put : Option TermId) (k : ℕ) (h n : RigidHead) (x : Value) → h ≡ n → IsClosedHead (rigid_head n) → is_name depth (rigid_head n) ≡ false → IsHeadOf (rigid_head n) x → Quotes (put_head g depth put) depth k (At (rigid_head h)) x
quotes-rigid g depth put k h n x e w other m = subst (λ (i : RigidHead). Quotes (put_head g depth put) depth k (At (rigid_head i)) x) (sym e) (quotes-head g depth put k (rigid_head n) x w other m)

-- with nothing put, each head stands for itself
pub none-keeps : (g : Graph) (depth : ℕ) (put : Option TermId) → put ≡ None → KeepsHeads (put_head g depth put)
none-keeps g depth put e h = ap (λ (o : Option TermId). put_head g depth o h) e
