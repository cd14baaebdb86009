-- What is reached from nodes that are made to apply a term to a level.
use Rattle.std.proofs.Common.{◌≡◌, ℕ, suc, ◌<◌, ◌||◌, ◌++◌, List, [], ◌∷◌, length, map, Some, refl, sym, ap, ap₂, ◌∙◌, arith}
use mathlib.Core.Path.{fun_ext}
use Rattle.level_terms.specs.declared.node.Node.TheVariants.{Level, Lam, App}
use Rattle.level_terms.specs.declared.node.TermId.{TermId}
use Rattle.level_terms.specs.declared.node.Change.{Change}
use Rattle.level_terms.specs.declared.node.Node.{Node}
use Rattle.level_terms.specs.Graph.{Graph, Assigned, node_at}
use Rattle.level_terms.specs.Sound.{IsSound, AllAssigned}
use Rattle.level_terms.specs.Growth.{Grows, changes_of}
use Rattle.level_terms.specs.Reached.{Tree, Leaf, One, Two, plant, reaches, grown, layer_tree, node_tree, put, trees_of, tree, IsUnreached}
use Rattle.level_terms.proofs.FoldLemmas.{over-at, over-older, names_older}
use Rattle.level_terms.proofs.GrowthLemmas.{changes-length}

-- the trees of values, in a heap with more nodes
trees-grown : (new nodes : List Node) (k : ℕ) (bs : List Assigned) → AllAssigned (length nodes) k bs → (v : ℕ) → trees_of (new ++ nodes) bs v ≡ trees_of nodes bs v
unfolding trees_of
trees-grown new nodes k [] w v = refl
trees-grown new nodes k (a ∷ older) w v =
    let same = fun_ext (trees-grown new nodes k older w.2) in
    ap₂ (λ (u : ℕ → Tree) (x : Tree). plant (put a.variable (plant u x)) (u v)) same (over-older layer_tree Leaf new nodes a.value w.0)

none-assigned : (bs : List Assigned) → ◌≡◌ {A = List Change} [] ([] ++ changes_of bs) → bs ≡ []
none-assigned [] e = refl
none-assigned (b ∷ bs) e = absurd (let k : 0 ≡ suc (length bs) = ap length e ∙ changes-length (b ∷ bs) in omega (arith, k))

-- the tree of a node that was there stays as it was
pub tree-grown : (g h : Graph) → IsSound g → Grows g h [] [] → (t : ℕ) → t < length g.nodes → tree h t ≡ tree g t
unfolding tree
tree-grown g h s w t below =
    let same : h.assigned ≡ g.assigned = w.assigned ∙ ap (λ (bs : List Assigned). bs ++ g.assigned) (none-assigned w.new_assigned w.trail) in
    ap₂ (λ (ns : List Node) (bs : List Assigned). plant (trees_of ns bs) (node_tree ns t)) w.nodes same
    ∙ ap₂ plant (fun_ext (trees-grown w.new_nodes g.nodes (length g.depths) g.assigned s.assigned)) (over-older layer_tree Leaf w.new_nodes g.nodes t below)

pub unreached-grown : (g h : Graph) → IsSound g → Grows g h [] [] → (t : ℕ) → t < length g.nodes → (v : ℕ) → IsUnreached g v t → IsUnreached h v t
unreached-grown g h s w t below v e = ap (reaches v) (tree-grown g h s w t below) ∙ e

-- the tree of a node, with those of values in it
abbrev pub full : Graph → Tree → Tree
full g a = plant (trees_of g.nodes g.assigned) a

-- a body is reached from its abstraction, and nothing else is
pub body-unreached : (g : Graph) (t d : ℕ) (b : TermId) → IsSound g → node_at g.nodes t ≡ Some (Lam d b) → (v : ℕ) → IsUnreached g v t → IsUnreached g v b.index
unfolding tree
body-unreached g t d b s e v w = ap (λ z. reaches v (full g z)) (sym (over-at layer_tree Leaf g.nodes t (Lam d b) (names_older (length g.depths) g.nodes s.made) e)) ∙ w

pub lam-unreached : (g : Graph) (t d : ℕ) (b : TermId) → IsSound g → node_at g.nodes t ≡ Some (Lam d b) → (v : ℕ) → IsUnreached g v b.index → IsUnreached g v t
unfolding tree
lam-unreached g t d b s e v w = ap (λ z. reaches v (full g z)) (over-at layer_tree Leaf g.nodes t (Lam d b) (names_older (length g.depths) g.nodes s.made) e) ∙ w

pub level-tree : (g : Graph) (t k : ℕ) → IsSound g → node_at g.nodes t ≡ Some (Level k) → node_tree g.nodes t ≡ Leaf
level-tree g t k s e = over-at layer_tree Leaf g.nodes t (Level k) (names_older (length g.depths) g.nodes s.made) e

-- a level as the only argument
pub first-unreached : (g : Graph) (t name : TermId) (r depth : ℕ) → IsSound g → node_at g.nodes r ≡ Some (App t (name ∷ [])) → node_at g.nodes name.index ≡ Some (Level depth) → (v : ℕ) → IsUnreached g v t.index → IsUnreached g v r
unfolding tree
first-unreached g t name r depth s e l v w =
    ap (λ z. reaches v (full g z)) (over-at layer_tree Leaf g.nodes r (App t (name ∷ [])) (names_older (length g.depths) g.nodes s.made) e)
    ∙ ap (λ z. reaches v (full g (Two z (One (node_tree g.nodes t.index))))) (level-tree g name.index depth s l)
    ∙ w

grown-leaf : (u : ℕ → Tree) (v : ℕ) (h : Tree) (f : ℕ → Tree) (name : TermId) → f name.index ≡ Leaf → (ts : List TermId) →
    reaches v (plant u (grown h (map (λ t. f t.index) (ts ++ name ∷ [])))) ≡ reaches v (plant u (grown h (map (λ t. f t.index) ts)))
grown-leaf u v h f name e [] = ap (λ z. reaches v (plant u (Two z (One h)))) e
grown-leaf u v h f name e (t ∷ ts) = ap (λ b. reaches v (plant u (f t.index)) || b) (grown-leaf u v h f name e ts)

-- a level as the last argument
pub last-unreached : (g : Graph) (t : ℕ) (k : TermId) (ts : List TermId) (name : TermId) (r depth : ℕ) → IsSound g → node_at g.nodes t ≡ Some (App k ts) → node_at g.nodes r ≡ Some (App k (ts ++ name ∷ [])) →
    node_at g.nodes name.index ≡ Some (Level depth) → (v : ℕ) → IsUnreached g v t → IsUnreached g v r
unfolding tree
last-unreached g t k ts name r depth s here e l v w =
    ap (λ z. reaches v (full g z)) (over-at layer_tree Leaf g.nodes r (App k (ts ++ name ∷ [])) (names_older (length g.depths) g.nodes s.made) e)
    ∙ grown-leaf (trees_of g.nodes g.assigned) v (node_tree g.nodes k.index) (node_tree g.nodes) name (level-tree g name.index depth s l) ts
    ∙ ap (λ z. reaches v (full g z)) (sym (over-at layer_tree Leaf g.nodes t (App k ts) (names_older (length g.depths) g.nodes s.made) here))
    ∙ w
