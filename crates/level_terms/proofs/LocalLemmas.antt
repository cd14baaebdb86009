-- A valid node reads the same wherever the levels below its depth stand for the same.
use Rattle.std.proofs.Common.{◌≡◌, ℕ, zero, suc, ◌<◌, ◌≤◌, ◌+◌, ◌&&◌, List, [], ◌∷◌, map, length, cond, nat_eq, nat_lt, Bool, true, false, slice_index, refl, sym, ap, ap₂, ◌∙◌, arith, ltb-true, ltb-false, eq-eqb, subst}
use Rattle.std.specs.List.{list_all}
use Rattle.level_terms.specs.declared.node.Node.{Node}
use Rattle.level_terms.specs.declared.node.Node.TheVariants.{Con, Int, Str, Level, Lam, App, Var}
use Rattle.level_terms.specs.declared.node.TermId.{TermId}
use Rattle.level_terms.specs.Graph.{Graph, Assigned}
use Rattle.level_terms.specs.Layer.{layer_of, over}
use Rattle.level_terms.specs.Reading.{layer_term, levels, node_term, closed_term, value_term, values_of, read, enter}
use Rattle.level_terms.specs.Valid.{layer_valid, valid, IsValid, AllValid}
use Rattle.level_terms.proofs.SubLemmas.{Reader, closed_term-follows}
use Rattle.ref_terms.specs.terms.Term as term
use Rattle.ref_terms.specs.terms.Term.{Term, Head}
use Rattle.ref_terms.specs.terms.Index.{ren, ren_head, shift}
use Rattle.ref_terms.specs.terms.Eta.{lam}
use Rattle.ref_terms.specs.terms.Instance.{inst, inst_all, only, valued}
use Rattle.ref_terms.specs.unification.Spine.{apply_all}
use Rattle.ref_terms.specs.lemmas.TermLemmas.{ren_sub}
use Rattle.ref_terms.specs.lemmas.ComposeLemmas.{fill-ren}
use Rattle.ref_terms.specs.lemmas.ReadyFacts.{ready-bound}

-- the levels below a depth stand for the same
abbrev pub Agree : ℕ → (ℕ → Term) → (ℕ → Term) → Type 0
Agree d env other = (i : ℕ) → i < d → env i ≡ other i

-- what is read hangs on the levels below the depth alone
abbrev pub Local : ℕ → Reader → Type 0
Local d r = (env other : ℕ → Term) → Agree d env other → r env ≡ r other

pub and_left : (a b : Bool) → (a && b) ≡ true → a ≡ true
and_left true b e = refl
and_left false b e = e

pub and_right : (a b : Bool) → (a && b) ≡ true → b ≡ true
and_right true b e = e
and_right false b e = absurd (let k : false ≡ true = e in cc)

-- an index below the next depth is this depth or below it
pub step_down : (d i : ℕ) → nat_eq d i ≡ false → i < suc d → i < d
step_down d i q h = pick (nat_lt i d) refl
  where
    pick : (b : Bool) → nat_lt i d ≡ b → i < d
    pick true e = ltb-true i d e
    pick false e = absurd (let same : d ≡ i = (let z = ltb-false i d e in omega (arith, z, h)) in let t : nat_eq d i ≡ true = eq-eqb d i same in cc)

pub enter-agree : (d : ℕ) (env other : ℕ → Term) → Agree d env other → Agree (suc d) (enter d env) (enter d other)
enter-agree d env other e i h = go (nat_eq d i) refl
  where
    go : (b : Bool) → nat_eq d i ≡ b → cond b (term.At (term.Bound 0)) (shift (env i)) ≡ cond b (term.At (term.Bound 0)) (shift (other i))
    go true q = refl
    go false q = ap shift (e i (step_down d i q h))

levels-agree : (k : ℕ) (env other : ℕ → Term) → Agree k env other → levels k env ≡ levels k other
levels-agree zero env other e = refl
levels-agree (suc k) env other e = ap₂ (λ (x : Term) (xs : List Term). x ∷ xs) (e 0 (omega arith)) (levels-agree k (λ i. env (suc i)) (λ i. other (suc i)) (λ i h. e (suc i) (omega (arith, h))))

less-agree : (j k : ℕ) (env other : ℕ → Term) → j ≤ k → Agree k env other → Agree j env other
less-agree j k env other h e i l = e i (omega (arith, h, l))

parts-local : (f : ℕ → Reader) (v : ℕ → ℕ → Bool) (d : ℕ) → ((k d : ℕ) → v k d ≡ true → Local d (f k)) → (env other : ℕ → Term) → Agree d env other → (ts : List TermId) → list_all (λ t. t d) (map (λ t. v t.index) ts) ≡ true →
    map (λ r. r env) (map (λ t. f t.index) ts) ≡ map (λ r. r other) (map (λ t. f t.index) ts)
parts-local f v d w env other e [] h = refl
parts-local f v d w env other e (t ∷ ts) h =
    ap₂ (λ (x : Term) (xs : List Term). x ∷ xs) (w t.index d (and_left _ _ h) env other e) (parts-local f v d w env other e ts (and_right _ _ h))

node-local : (depths : List ℕ) (f : ℕ → Reader) (v : ℕ → ℕ → Bool) → ((k d : ℕ) → v k d ≡ true → Local d (f k)) → (n : Node) (d : ℕ) → layer_valid depths (layer_of v n) d ≡ true → Local d (layer_term depths (layer_of f n))
node-local depths f v w (Con c) d h env other e = refl
node-local depths f v w (Int c) d h env other e = refl
node-local depths f v w (Str c) d h env other e = refl
node-local depths f v w (Level l) d h env other e = e l (ltb-true l d h)
node-local depths f v w (Lam k b) d h env other e =
    let within : k < suc d = ltb-true k (suc d) (and_left _ _ h) in
    ap lam (w b.index (suc k) (and_right _ _ h) (enter k env) (enter k other) (enter-agree k env other (less-agree k d env other (omega (arith, within)) e)))
node-local depths f v w (App t ts) d h env other e = ap₂ apply_all (w t.index d (and_left _ _ h) env other e) (parts-local f v d w env other e ts (and_right _ _ h))
node-local depths f v w (Var x) d h env other e =
    let within : slice_index depths x.index < suc d = ltb-true _ (suc d) h in
    ap (apply_all (term.At (term.Var x.index))) (levels-agree (slice_index depths x.index) env other (less-agree _ d env other (omega (arith, within)) e))

pub node_term-local : (nodes : List Node) (depths : List ℕ) (t d : ℕ) → valid nodes depths t d ≡ true → Local d (node_term nodes depths t)
unfolding valid
node_term-local [] depths t d h = absurd (let k : false ≡ true = h in cc)
node_term-local (n ∷ older) depths t d h = go (nat_eq (length older) t) h (λ k e q. node_term-local older depths k e q)
  where
    go : (b : Bool) → cond b (layer_valid depths (layer_of (over (layer_valid depths) (λ depth. false) older) n)) (over (layer_valid depths) (λ depth. false) older t) d ≡ true
        → ((k e : ℕ) → over (layer_valid depths) (λ depth. false) older k e ≡ true → Local e (node_term older depths k))
        → Local d (cond b (layer_term depths (layer_of (node_term older depths) n)) (node_term older depths t))
    go true q before = node-local depths (node_term older depths) (over (layer_valid depths) (λ depth. false) older) before n d q
    go false q before = before t d q

pub closed_term-local : (nodes : List Node) (depths : List ℕ) (d k t : ℕ) → valid nodes depths t (d + k) ≡ true → Local d (closed_term nodes depths d k t)
closed_term-local nodes depths d zero t h env other e = node_term-local nodes depths t d (subst (λ n. valid nodes depths t n ≡ true) (let q : d + 0 ≡ d = omega arith in q) h) env other e
closed_term-local nodes depths d (suc k) t h env other e =
    ap lam (closed_term-local nodes depths (suc d) k t (subst (λ n. valid nodes depths t n ≡ true) (let q : d + suc k ≡ suc d + k = omega arith in q) h) (enter d env) (enter d other) (enter-agree d env other e))

pub readings_local : (g : Graph) (t depth : ℕ) (env other : ℕ → Term) → IsValid g t depth → ((i : ℕ) → i < depth → env i ≡ other i) → read g t env ≡ read g t other
unfolding read
readings_local g t depth env other h e = ap (inst_all (values_of g.nodes g.depths g.assigned)) (node_term-local g.nodes g.depths t depth h env other e)

-- a term without free indices
abbrev pub HasNoIndex : Term → Type 0
HasNoIndex t = (f : ℕ → ℕ) → ren f t ≡ t

no_index-value : (nodes : List Node) (depths : List ℕ) (a : Assigned) → valid nodes depths a.value (slice_index depths a.variable) ≡ true → HasNoIndex (value_term nodes depths a)
no_index-value nodes depths a h f =
    ren_sub f (value_term nodes depths a)
    ∙ closed_term-follows nodes depths 0 (slice_index depths a.variable) a.value (λ i. term.At (term.Bound (f i))) (λ i. ready-bound (f i)) (λ i. term.At (term.Bound i))
    ∙ closed_term-local nodes depths 0 (slice_index depths a.variable) a.value (subst (λ n. valid nodes depths a.value n ≡ true) (let q : slice_index depths a.variable ≡ 0 + slice_index depths a.variable = omega arith in q) h) (λ i. term.At (term.Bound (f i))) (λ i. term.At (term.Bound i)) (λ i l. absurd (omega (arith, l)))

no_index-inst_all : (u : ℕ → Term) → ((v : ℕ) → HasNoIndex (u v)) → (t : Term) → HasNoIndex t → HasNoIndex (inst_all u t)
no_index-inst_all u w t h f = sym (fill-ren (valued u) (valued u) f f same t) ∙ ap (inst_all u) (h f)
  where
    same : (h : Head) → valued u (ren_head f h) ≡ ren f (valued u h)
    same (term.Var v) = sym (w v f)
    same (term.Con c) = refl
    same (term.Int n) = refl
    same (term.Str s) = refl
    same (term.Name n) = refl
    same (term.Bound i) = refl

no_index-inst : (v : ℕ) (u : Term) → HasNoIndex u → (t : Term) → HasNoIndex t → HasNoIndex (inst v u t)
no_index-inst v u w t h f = sym (fill-ren (only v u) (only v u) f f same t) ∙ ap (inst v u) (h f)
  where
    one : (b : Bool) (x : ℕ) → cond b u (term.At (term.Var x)) ≡ ren f (cond b u (term.At (term.Var x)))
    one true x = sym (w f)
    one false x = refl

    same : (h : Head) → only v u (ren_head f h) ≡ ren f (only v u h)
    same (term.Var x) = one (nat_eq v x) x
    same (term.Con c) = refl
    same (term.Int n) = refl
    same (term.Str s) = refl
    same (term.Name n) = refl
    same (term.Bound i) = refl

pub no_index-values : (nodes : List Node) (depths : List ℕ) (bs : List Assigned) → AllValid nodes depths bs → (v : ℕ) → HasNoIndex (values_of nodes depths bs v)
unfolding values_of
no_index-values nodes depths [] w v f = refl
no_index-values nodes depths (a ∷ older) w v f =
    no_index-inst a.variable (inst_all (values_of nodes depths older) (value_term nodes depths a))
    (no_index-inst_all (values_of nodes depths older) (no_index-values nodes depths older w.1) (value_term nodes depths a) (no_index-value nodes depths a w.0))
    (values_of nodes depths older v) (no_index-values nodes depths older w.1 v) f
