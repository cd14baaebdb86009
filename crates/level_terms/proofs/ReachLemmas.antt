-- What is reached from nodes.
use Rattle.std.proofs.Common.{◌≡◌, ℕ, suc, ◌<◌, ◌||◌, ◌++◌, List, [], ◌∷◌, length, map, cond, nat_eq, Bool, true, false, Some, None, Option, refl, sym, ap, ap₂, ◌∙◌, arith}
use mathlib.Core.Path.{fun_ext}
use Rattle.level_terms.specs.declared.node.Node.{Node}
use Rattle.level_terms.specs.declared.node.Node.TheVariants.{Con, Int, Str, Level, Lam, App, Var}
use Rattle.level_terms.specs.declared.node.TermId.{TermId}
use Rattle.level_terms.specs.declared.node.VarId.{VarId}
use Rattle.level_terms.specs.declared.node.Change.{Change}
use Rattle.level_terms.specs.Graph.{Graph, Assigned, node_at, value_in}
use Rattle.level_terms.specs.Layer.{layer_of}
use Rattle.level_terms.specs.Sound.{IsSound, AllAssigned}
use Rattle.level_terms.specs.Growth.{Grows, changes_of}
use Rattle.level_terms.specs.Reached.{Tree, Leaf, Hole, One, Two, plant, reaches, grown, layer_tree, node_tree, put, trees_of, tree, IsUnreached}
use Rattle.level_terms.proofs.FoldLemmas.{over-at, over-older, names_older}
use Rattle.level_terms.proofs.GrowthLemmas.{changes-length}
use Rattle.level_terms.proofs.TreeLemmas.{tree-stands}
use Rattle.ref_terms.specs.lemmas.NameLemmas.{or_left, or_right, or_both}
use Rattle.level_terms.specs.Values.{Value, value_of, AllMiss}

-- the trees of values, in a heap with more nodes
trees-grown : (new nodes : List Node) (k : ℕ) (bs : List Assigned) → AllAssigned (length nodes) k bs → (v : ℕ) → trees_of (new ++ nodes) bs v ≡ trees_of nodes bs v
unfolding trees_of
trees-grown new nodes k [] w v = refl
trees-grown new nodes k (a ∷ older) w v =
    let same = fun_ext (trees-grown new nodes k older w.2) in
    ap₂ (λ (u : ℕ → Tree) (x : Tree). plant (put a.variable (plant u x)) (u v)) same (over-older layer_tree Leaf new nodes a.value w.0)

none-assigned : (bs : List Assigned) → ◌≡◌ {A = List Change} [] ([] ++ changes_of bs) → bs ≡ []
none-assigned [] e = refl
none-assigned (b ∷ bs) e = absurd (let k : 0 ≡ suc (length bs) = ap length e ∙ changes-length (b ∷ bs) in omega (arith, k))

-- the tree of a node that was there stays as it was
pub tree-grown : (g h : Graph) → IsSound g → Grows g h [] [] → (t : ℕ) → t < length g.nodes → tree h t ≡ tree g t
unfolding tree
tree-grown g h s w t below =
    let same : h.assigned ≡ g.assigned = w.assigned ∙ ap (λ (bs : List Assigned). bs ++ g.assigned) (none-assigned w.new_assigned w.trail) in
    ap₂ (λ (ns : List Node) (bs : List Assigned). plant (trees_of ns bs) (node_tree ns t)) w.nodes same
    ∙ ap₂ plant (fun_ext (trees-grown w.new_nodes g.nodes (length g.depths) g.assigned s.assigned)) (over-older layer_tree Leaf w.new_nodes g.nodes t below)

-- the tree of a node, by its layer
pub tree-at : (g : Graph) (t : ℕ) (n : Node) → IsSound g → node_at g.nodes t ≡ Some n → tree g t ≡ plant (trees_of g.nodes g.assigned) (layer_tree (layer_of (node_tree g.nodes) n))
unfolding tree
tree-at g t n s e = ap (plant (trees_of g.nodes g.assigned)) (over-at layer_tree Leaf g.nodes t n (names_older (length g.depths) g.nodes s.made) e)

-- from an abstraction is reached what is from its body
pub lam-misses : (g : Graph) (t d : ℕ) (b : TermId) (v : ℕ) → IsSound g → node_at g.nodes t ≡ Some (Lam d b) → reaches v (tree g b.index) ≡ false → reaches v (tree g t) ≡ false
unfolding tree
lam-misses g t d b v s e w = ap (reaches v) (tree-at g t (Lam d b) s e) ∙ w

-- from an application what is from its head and its arguments
args-miss : (g : Graph) (v : ℕ) (h : Tree) → reaches v (plant (trees_of g.nodes g.assigned) h) ≡ false → (ts : List TermId) → AllMiss v (map (value_of g) ts) →
    reaches v (plant (trees_of g.nodes g.assigned) (grown h (map (λ t. node_tree g.nodes t.index) ts))) ≡ false
unfolding tree
args-miss g v h e [] w = e
args-miss g v h e (t ∷ ts) w = or_both _ _ w.0 (args-miss g v h e ts w.1)

pub app-misses : (g : Graph) (t : ℕ) (k : TermId) (ts : List TermId) (v : ℕ) → IsSound g → node_at g.nodes t ≡ Some (App k ts) → reaches v (tree g k.index) ≡ false → AllMiss v (map (value_of g) ts) → reaches v (tree g t) ≡ false
unfolding tree
app-misses g t k ts v s e h w = ap (reaches v) (tree-at g t (App k ts) s e) ∙ args-miss g v (node_tree g.nodes k.index) h ts w

grown-misses : (u : ℕ → Tree) (v : ℕ) (h : Tree) (ts : List Tree) → reaches v (plant u (grown h ts)) ≡ false → reaches v (plant u h) ≡ false
grown-misses u v h [] e = e
grown-misses u v h (t ∷ ts) e = grown-misses u v h ts (or_right _ _ e)

all-missed : (g : Graph) (v : ℕ) (h : Tree) (ts : List TermId) → reaches v (plant (trees_of g.nodes g.assigned) (grown h (map (λ t. node_tree g.nodes t.index) ts))) ≡ false → AllMiss v (map (value_of g) ts)
unfolding tree
all-missed g v h [] e = tt
all-missed g v h (t ∷ ts) e = (or_left _ _ e, all-missed g v h ts (or_right _ _ e))

pub parts-miss : (g : Graph) (t : ℕ) (k : TermId) (ts : List TermId) (v : ℕ) → IsSound g → node_at g.nodes t ≡ Some (App k ts) → reaches v (tree g t) ≡ false → (reaches v (tree g k.index) ≡ false) × AllMiss v (map (value_of g) ts)
unfolding tree
parts-miss g t k ts v s e w =
    let below = sym (ap (reaches v) (tree-at g t (App k ts) s e)) ∙ w in
    (grown-misses (trees_of g.nodes g.assigned) v (node_tree g.nodes k.index) (map (λ t. node_tree g.nodes t.index) ts) below, all-missed g v (node_tree g.nodes k.index) ts below)

-- from a leaf nothing is
pub leaf-misses : (g : Graph) (t : ℕ) (n : Node) (v : ℕ) → IsSound g → node_at g.nodes t ≡ Some n → layer_tree (layer_of (node_tree g.nodes) n) ≡ Leaf → reaches v (tree g t) ≡ false
leaf-misses g t n v s e leaf = ap (reaches v) (tree-at g t n s e ∙ ap (plant (trees_of g.nodes g.assigned)) leaf)

pub level-misses : (g : Graph) (t l v : ℕ) → IsSound g → node_at g.nodes t ≡ Some (Level l) → reaches v (tree g t) ≡ false
level-misses g t l v s e = leaf-misses g t (Level l) v s e refl

-- a variable without a value stands for itself
open-tree : (nodes : List Node) (bs : List Assigned) (v : ℕ) → value_in bs v ≡ None → trees_of nodes bs v ≡ Hole v
unfolding trees_of
open-tree nodes [] v e = refl
open-tree nodes (a ∷ older) v e = go (nat_eq a.variable v) refl e (λ f. open-tree nodes older v f)
  where
    u : Tree
    u = plant (trees_of nodes older) (node_tree nodes a.value)

    go : (b : Bool) → nat_eq a.variable v ≡ b → cond b (Some a.value) (value_in older v) ≡ None → (value_in older v ≡ None → trees_of nodes older v ≡ Hole v) → plant (put a.variable u) (trees_of nodes older v) ≡ Hole v
    go true q f h = absurd (let k : Some a.value ≡ None = f in cc)
    go false q f h = ap (plant (put a.variable u)) (h f) ∙ ap (λ b. cond b u (Hole v)) q

pub var-misses : (g : Graph) (t : ℕ) (v : VarId) (w : ℕ) → IsSound g → node_at g.nodes t ≡ Some (Var v) → value_in g.assigned v.index ≡ None → nat_eq w v.index ≡ false → reaches w (tree g t) ≡ false
var-misses g t v w s e free other = ap (reaches w) (tree-at g t (Var v) s e ∙ ap One (open-tree g.nodes g.assigned v.index free)) ∙ other

-- from a variable that has a value is reached what is from the value
pub value-misses : (g : Graph) (t : ℕ) (v : VarId) (s w : ℕ) → IsSound g → node_at g.nodes t ≡ Some (Var v) → value_in g.assigned v.index ≡ Some s → reaches w (tree g s) ≡ false → reaches w (tree g t) ≡ false
unfolding tree
value-misses g t v s w sound e value h = ap (reaches w) (tree-at g t (Var v) sound e ∙ ap One (tree-stands g.nodes g.assigned sound.acyclic v.index s value)) ∙ h
