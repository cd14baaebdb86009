-- What the nodes of a variable over levels mean.
use Rattle.std.proofs.Common.{◌≡◌, ℕ, suc, ◌++◌, List, [], ◌∷◌, length, map, cond, nat_eq, Bool, true, false, Some, None, slice_index, refl, ap, ap₂, ◌∙◌, arith}
use Rattle.std.specs.List.{list_all}
use Rattle.level_terms.specs.declared.node.Node.{Node}
use Rattle.level_terms.specs.declared.node.Node.TheVariants.{Level, App, Var}
use Rattle.level_terms.specs.declared.node.TermId.{TermId}
use Rattle.level_terms.specs.declared.node.VarId.{VarId}
use Rattle.level_terms.specs.Graph.{Graph, Assigned, node_at, value_in}
use Rattle.level_terms.specs.Laws.{ArePlaces}
use Rattle.level_terms.specs.Sound.{IsSound, AllOlder}
use Rattle.level_terms.specs.Growth.{Grows}
use Rattle.level_terms.specs.Valid.{valid, IsValid}
use Rattle.level_terms.specs.Reached.{Tree, Leaf, Hole, plant, reaches, grown, layer_tree, node_tree, put, trees_of, tree, IsUnreached}
use Rattle.level_terms.specs.Reading.{read, levels, variable_reads}
use Rattle.level_terms.proofs.FoldLemmas.{over-at, names_older, node_at-below}
use Rattle.level_terms.proofs.NodeLemmas.{nodes_read}
use Rattle.level_terms.proofs.ValidLemmas.{nodes_valid}
use Rattle.ref_terms.specs.terms.Term as term
use Rattle.ref_terms.specs.terms.Term.{Term, At}
use Rattle.ref_terms.specs.unification.Spine.{apply_all}
use Rattle.ref_terms.specs.lemmas.NameLemmas.{or_both}
use Rattle.beta_fragment.specs.Names.{AllBelow}
use Rattle.level_terms.proofs.MakeLemmas.{and_both, newest, below_true}
use Rattle.beta_fragment.proofs.MoveLemmas.{node-after}
use Rattle.pattern_unify.specs.inside.Keeping.{AreLevels, IsVarOver, IsSpineOf}
use Rattle.pattern_unify.proofs.ReachedLemmas.{full, level-tree}

-- what was there is there in a heap that grew
pub node-kept : (g h : Graph) → Grows g h [] [] → (t : ℕ) (n : Node) → node_at g.nodes t ≡ Some n → node_at h.nodes t ≡ Some n
node-kept g h w t n e = node-after g h w t (node_at-below g.nodes t n e) ∙ e

pub levels-kept : (g h : Graph) → Grows g h [] [] → (ts : List TermId) (ks : List ℕ) → AreLevels g ts ks → AreLevels h ts ks
levels-kept g h w [] [] a = a
levels-kept g h w [] (k ∷ ks) a = a
levels-kept g h w (t ∷ ts) [] a = a
levels-kept g h w (t ∷ ts) (k ∷ ks) a = (node-kept g h w t.index (Level k) a.0, levels-kept g h w ts ks a.1)

-- the newest node
pub node-made : (g h : Graph) (n : Node) (r : ℕ) → r ≡ length g.nodes → h ≡ record g { nodes = n ∷ g.nodes } → node_at h.nodes r ≡ Some n
node-made g h n r e made = ap₂ (λ (ns : List Node) (i : ℕ). node_at ns i) (λ i. (made i).nodes) e ∙ newest n g.nodes

pub depths-made : (g h : Graph) (n : Node) → h ≡ record g { nodes = n ∷ g.nodes } → h.depths ≡ g.depths
depths-made g h n made = λ i. (made i).depths

-- the nodes of levels are there
pub levels-older : (g : Graph) (ts : List TermId) (ks : List ℕ) → AreLevels g ts ks → AllOlder (length g.nodes) ts
levels-older g [] ks a = tt
levels-older g (t ∷ ts) [] a = absurd a
levels-older g (t ∷ ts) (k ∷ ks) a = (node_at-below g.nodes t.index (Level k) a.0, levels-older g ts ks a.1)

-- an application to some levels
pub over-some : (g : Graph) (t : ℕ) (x : VarId) (ks : List ℕ) → (length ks ≡ 0 → ⊥) → IsSpineOf g t x ks → IsVarOver g t x ks
over-some g t x [] some a = absurd (some refl)
over-some g t x (k ∷ ks) some a = a

-- one more level, last
pub levels-last : (g : Graph) (ts : List TermId) (ks : List ℕ) (t : TermId) (k : ℕ) → AreLevels g ts ks → node_at g.nodes t.index ≡ Some (Level k) → AreLevels g (ts ++ t ∷ []) (ks ++ k ∷ [])
levels-last g [] [] t k a e = (e, tt)
levels-last g [] (j ∷ ks) t k a e = absurd a
levels-last g (s ∷ ts) [] t k a e = absurd a
levels-last g (s ∷ ts) (j ∷ ks) t k a e = (a.0, levels-last g ts ks t k a.1 e)

-- a variable applied to levels
abbrev pub spine_term : ℕ → List ℕ → (ℕ → Term) → Term
spine_term x ks env = apply_all (At (term.Var x)) (map env ks)

-- readings
var-reads : (g : Graph) (t : ℕ) (x : VarId) → IsSound g → node_at g.nodes t ≡ Some (Var x) → value_in g.assigned x.index ≡ None → slice_index g.depths x.index ≡ 0 → (env : ℕ → Term) → ArePlaces env → read g t env ≡ At (term.Var x.index)
var-reads g t x s e free none env p =
    nodes_read g t (Var x) env s p e
    ∙ ap (λ o. variable_reads g x.index o env) free
    ∙ ap (λ d. apply_all (At (term.Var x.index)) (levels d env)) none

levels-read : (g : Graph) → IsSound g → (env : ℕ → Term) → ArePlaces env → (ts : List TermId) (ks : List ℕ) → AreLevels g ts ks → map (λ t. read g t.index env) ts ≡ map env ks
levels-read g s env p [] [] a = refl
levels-read g s env p [] (k ∷ ks) a = absurd a
levels-read g s env p (t ∷ ts) [] a = absurd a
levels-read g s env p (t ∷ ts) (k ∷ ks) a = ap₂ (λ (y : Term) (ys : List Term). y ∷ ys) (nodes_read g t.index (Level k) env s p a.0) (levels-read g s env p ts ks a.1)

pub over-reads : (g : Graph) (t : ℕ) (x : VarId) (ks : List ℕ) → IsSound g → value_in g.assigned x.index ≡ None → slice_index g.depths x.index ≡ 0 → IsVarOver g t x ks → (env : ℕ → Term) → ArePlaces env → read g t env ≡ spine_term x.index ks env
over-reads g t x [] s free none a env p = var-reads g t x s a free none env p
over-reads g t x (k ∷ ks) s free none a env p =
    nodes_read g t (App a.head a.args) env s p a.node
    ∙ ap₂ apply_all (var-reads g a.head.index x s a.variable free none env p) (levels-read g s env p a.args (k ∷ ks) a.are)

-- where they are valid
levels-valid : (g : Graph) → IsSound g → (depth : ℕ) (ts : List TermId) (ks : List ℕ) → AreLevels g ts ks → AllBelow ks depth → list_all (λ (f : ℕ → Bool). f depth) (map (λ t. valid g.nodes g.depths t.index) ts) ≡ true
levels-valid g s depth [] ks a b = refl
levels-valid g s depth (t ∷ ts) [] a b = absurd a
levels-valid g s depth (t ∷ ts) (k ∷ ks) a b =
    and_both (valid g.nodes g.depths t.index depth) _ (nodes_valid g t.index (Level k) depth s a.0 ∙ below_true k depth (b 0 (omega arith)))
    (levels-valid g s depth ts ks a.1 (λ i h. b (suc i) (omega (arith, h))))

var-valid : (g : Graph) (t : ℕ) (x : VarId) → IsSound g → node_at g.nodes t ≡ Some (Var x) → slice_index g.depths x.index ≡ 0 → (depth : ℕ) → IsValid g t depth
var-valid g t x s e none depth = nodes_valid g t (Var x) depth s e ∙ below_true (slice_index g.depths x.index) (suc depth) (omega (arith, none))

pub over-valid : (g : Graph) (t : ℕ) (x : VarId) (ks : List ℕ) → IsSound g → slice_index g.depths x.index ≡ 0 → IsVarOver g t x ks → (depth : ℕ) → AllBelow ks depth → IsValid g t depth
over-valid g t x [] s none a depth b = var-valid g t x s a none depth
over-valid g t x (k ∷ ks) s none a depth b =
    nodes_valid g t (App a.head a.args) depth s a.node
    ∙ and_both (valid g.nodes g.depths a.head.index depth) _ (var-valid g a.head.index x s a.variable none depth) (levels-valid g s depth a.args (k ∷ ks) a.are b)

-- another variable isn't reached
trees-open : (nodes : List Node) (bs : List Assigned) (v : ℕ) → value_in bs v ≡ None → trees_of nodes bs v ≡ Hole v
unfolding trees_of
trees-open nodes [] v e = refl
trees-open nodes (a ∷ older) v e = go (nat_eq a.variable v) refl e (λ q. trees-open nodes older v q)
  where
    u : Tree
    u = plant (trees_of nodes older) (node_tree nodes a.value)

    go : (b : Bool) → nat_eq a.variable v ≡ b → cond b (Some a.value) (value_in older v) ≡ None → (value_in older v ≡ None → trees_of nodes older v ≡ Hole v) → plant (put a.variable u) (trees_of nodes older v) ≡ Hole v
    go true q e h = absurd (let z : Some a.value ≡ None = e in cc)
    go false q e h = ap (plant (put a.variable u)) (h e) ∙ ap (λ b. cond b u (Hole v)) q

var-unreached : (g : Graph) (v t : ℕ) (x : VarId) → IsSound g → node_at g.nodes t ≡ Some (Var x) → value_in g.assigned x.index ≡ None → nat_eq v x.index ≡ false → reaches v (full g (node_tree g.nodes t)) ≡ false
var-unreached g v t x s e free other =
    ap (λ z. reaches v (full g z)) (over-at layer_tree Leaf g.nodes t (Var x) (names_older (length g.depths) g.nodes s.made) e)
    ∙ ap (reaches v) (trees-open g.nodes g.assigned x.index free)
    ∙ other

levels-unreached : (g : Graph) (v : ℕ) (h : Tree) → IsSound g → reaches v (full g h) ≡ false → (ts : List TermId) (ks : List ℕ) → AreLevels g ts ks → reaches v (full g (grown h (map (λ t. node_tree g.nodes t.index) ts))) ≡ false
levels-unreached g v h s w [] ks a = w
levels-unreached g v h s w (t ∷ ts) [] a = absurd a
levels-unreached g v h s w (t ∷ ts) (k ∷ ks) a =
    or_both (reaches v (full g (node_tree g.nodes t.index))) _ (ap (λ z. reaches v (full g z)) (level-tree g t.index k s a.0)) (levels-unreached g v h s w ts ks a.1)

pub over-unreached : (g : Graph) (v t : ℕ) (x : VarId) (ks : List ℕ) → IsSound g → value_in g.assigned x.index ≡ None → nat_eq v x.index ≡ false → IsVarOver g t x ks → IsUnreached g v t
unfolding tree
over-unreached g v t x [] s free other a = var-unreached g v t x s a free other
over-unreached g v t x (k ∷ ks) s free other a =
    ap (λ z. reaches v (full g z)) (over-at layer_tree Leaf g.nodes t (App a.head a.args) (names_older (length g.depths) g.nodes s.made) a.node)
    ∙ levels-unreached g v (node_tree g.nodes a.head.index) s (var-unreached g v a.head.index x s a.variable free other) a.args (k ∷ ks) a.are
