-- What is reached from nodes that are made.
use Rattle.std.proofs.Common.{◌≡◌, ℕ, ◌<◌, ◌||◌, ◌++◌, List, [], ◌∷◌, length, map, Some, sym, ap, ◌∙◌}
use Rattle.level_terms.specs.declared.node.Node.TheVariants.{Level, Lam, App}
use Rattle.level_terms.specs.declared.node.TermId.{TermId}
use Rattle.level_terms.specs.Graph.{Graph, node_at}
use Rattle.level_terms.specs.Sound.{IsSound}
use Rattle.level_terms.specs.Growth.{Grows}
use Rattle.level_terms.specs.Reached.{Tree, Leaf, One, Two, plant, reaches, grown, layer_tree, node_tree, trees_of, tree, IsUnreached}
use Rattle.level_terms.proofs.FoldLemmas.{over-at, names_older}
use Rattle.level_terms.proofs.ReachLemmas.{tree-grown}

-- what isn't reached from a node isn't as the heap grows
pub unreached-grown : (g h : Graph) → IsSound g → Grows g h [] [] → (t : ℕ) → t < length g.nodes → (v : ℕ) → IsUnreached g v t → IsUnreached h v t
unreached-grown g h s w t below v e = ap (reaches v) (tree-grown g h s w t below) ∙ e

-- the tree of a node, with those of values in it
abbrev pub full : Graph → Tree → Tree
full g a = plant (trees_of g.nodes g.assigned) a

-- a body is reached from its abstraction, and nothing else is
pub body-unreached : (g : Graph) (t d : ℕ) (b : TermId) → IsSound g → node_at g.nodes t ≡ Some (Lam d b) → (v : ℕ) → IsUnreached g v t → IsUnreached g v b.index
unfolding tree
body-unreached g t d b s e v w = ap (λ z. reaches v (full g z)) (sym (over-at layer_tree Leaf g.nodes t (Lam d b) (names_older (length g.depths) g.nodes s.made) e)) ∙ w

pub lam-unreached : (g : Graph) (t d : ℕ) (b : TermId) → IsSound g → node_at g.nodes t ≡ Some (Lam d b) → (v : ℕ) → IsUnreached g v b.index → IsUnreached g v t
unfolding tree
lam-unreached g t d b s e v w = ap (λ z. reaches v (full g z)) (over-at layer_tree Leaf g.nodes t (Lam d b) (names_older (length g.depths) g.nodes s.made) e) ∙ w

pub level-tree : (g : Graph) (t k : ℕ) → IsSound g → node_at g.nodes t ≡ Some (Level k) → node_tree g.nodes t ≡ Leaf
level-tree g t k s e = over-at layer_tree Leaf g.nodes t (Level k) (names_older (length g.depths) g.nodes s.made) e

-- a level as the only argument
pub first-unreached : (g : Graph) (t name : TermId) (r depth : ℕ) → IsSound g → node_at g.nodes r ≡ Some (App t (name ∷ [])) → node_at g.nodes name.index ≡ Some (Level depth) → (v : ℕ) → IsUnreached g v t.index → IsUnreached g v r
unfolding tree
first-unreached g t name r depth s e l v w =
    ap (λ z. reaches v (full g z)) (over-at layer_tree Leaf g.nodes r (App t (name ∷ [])) (names_older (length g.depths) g.nodes s.made) e)
    ∙ ap (λ z. reaches v (full g (Two z (One (node_tree g.nodes t.index))))) (level-tree g name.index depth s l)
    ∙ w

grown-leaf : (u : ℕ → Tree) (v : ℕ) (h : Tree) (f : ℕ → Tree) (name : TermId) → f name.index ≡ Leaf → (ts : List TermId) →
    reaches v (plant u (grown h (map (λ t. f t.index) (ts ++ name ∷ [])))) ≡ reaches v (plant u (grown h (map (λ t. f t.index) ts)))
grown-leaf u v h f name e [] = ap (λ z. reaches v (plant u (Two z (One h)))) e
grown-leaf u v h f name e (t ∷ ts) = ap (λ b. reaches v (plant u (f t.index)) || b) (grown-leaf u v h f name e ts)

-- a level as the last argument
pub last-unreached : (g : Graph) (t : ℕ) (k : TermId) (ts : List TermId) (name : TermId) (r depth : ℕ) → IsSound g → node_at g.nodes t ≡ Some (App k ts) → node_at g.nodes r ≡ Some (App k (ts ++ name ∷ [])) →
    node_at g.nodes name.index ≡ Some (Level depth) → (v : ℕ) → IsUnreached g v t → IsUnreached g v r
unfolding tree
last-unreached g t k ts name r depth s here e l v w =
    ap (λ z. reaches v (full g z)) (over-at layer_tree Leaf g.nodes r (App k (ts ++ name ∷ [])) (names_older (length g.depths) g.nodes s.made) e)
    ∙ grown-leaf (trees_of g.nodes g.assigned) v (node_tree g.nodes k.index) (node_tree g.nodes) name (level-tree g name.index depth s l) ts
    ∙ ap (λ z. reaches v (full g z)) (sym (over-at layer_tree Leaf g.nodes t (App k ts) (names_older (length g.depths) g.nodes s.made) here))
    ∙ w
