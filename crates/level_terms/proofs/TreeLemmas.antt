-- Trees through the values of variables.
use Rattle.std.proofs.Common.{◌≡◌, ℕ, ◌+◌, ◌<◌, List, [], ◌∷◌, length, cond, nat_eq, Bool, true, false, ◌||◌, Some, None, refl, sym, ap, ap₂, ◌∙◌, eqb-true, arith}
use Rattle.level_terms.specs.declared.node.Node.{Node}
use Rattle.level_terms.specs.declared.node.Node.TheVariants.{Var}
use Rattle.level_terms.specs.declared.node.VarId.{VarId}
use Rattle.level_terms.specs.Graph.{Graph, Assigned, value_in, node_at}
use Rattle.level_terms.specs.Reached.{Tree, Leaf, Hole, One, Two, plant, reaches, tree_size, layer_tree, node_tree, put, trees_of, tree, NoCycle}
use Rattle.level_terms.specs.Sound.{IsSound}
use Rattle.level_terms.proofs.FoldLemmas.{over-at, names_older}

plant-plant : (u w : ℕ → Tree) (t : Tree) → plant u (plant w t) ≡ plant (λ v. plant u (w v)) t
plant-plant u w Leaf = refl
plant-plant u w (Hole v) = refl
plant-plant u w (One a) = ap One (plant-plant u w a)
plant-plant u w (Two a b) = ap₂ Two (plant-plant u w a) (plant-plant u w b)

or_left : (a b : Bool) → (a || b) ≡ false → a ≡ false
or_left false b e = refl
or_left true b e = e

or_right : (a b : Bool) → (a || b) ≡ false → b ≡ false
or_right false b e = e
or_right true b e = absurd (let k : true ≡ false = e in cc)

plant-absent : (v : ℕ) (x t : Tree) → reaches v t ≡ false → plant (put v x) t ≡ t
plant-absent v x Leaf e = refl
plant-absent v x (Hole w) e = ap (λ b. cond b x (Hole w)) e
plant-absent v x (One a) e = ap One (plant-absent v x a e)
plant-absent v x (Two a b) e = ap₂ Two (plant-absent v x a (or_left _ _ e)) (plant-absent v x b (or_right _ _ e))

trees-free : (nodes : List Node) (bs : List Assigned) (v : ℕ) → value_in bs v ≡ None → trees_of nodes bs v ≡ Hole v
unfolding trees_of
trees-free nodes [] v e = refl
trees-free nodes (a ∷ older) v e = go (nat_eq a.variable v) refl e (λ q. trees-free nodes older v q)
  where
    u : Tree
    u = plant (trees_of nodes older) (node_tree nodes a.value)

    go : (b : Bool) → nat_eq a.variable v ≡ b → cond b (Some a.value) (value_in older v) ≡ None → (value_in older v ≡ None → trees_of nodes older v ≡ Hole v) → plant (put a.variable u) (trees_of nodes older v) ≡ Hole v
    go true q e h = absurd (let z : Some a.value ≡ None = e in cc)
    go false q e h = ap (plant (put a.variable u)) (h e) ∙ ap (λ b. cond b u (Hole v)) q

pub tree-stands : (nodes : List Node) (bs : List Assigned) → NoCycle nodes bs → (v t : ℕ) → value_in bs v ≡ Some t → trees_of nodes bs v ≡ plant (trees_of nodes bs) (node_tree nodes t)
unfolding trees_of
tree-stands nodes [] w v t e = absurd (let z : None ≡ Some t = e in cc)
tree-stands nodes (a ∷ older) w v t e = go (nat_eq a.variable v) refl e (λ q. tree-stands nodes older w.2 v t q)
  where
    before : ℕ → Tree
    before = trees_of nodes older

    u : Tree
    u = plant before (node_tree nodes a.value)

    later : (x : Tree) → plant (put a.variable u) (plant before x) ≡ plant (λ k. plant (put a.variable u) (before k)) x
    later x = plant-plant (put a.variable u) before x

    go : (b : Bool) → nat_eq a.variable v ≡ b → cond b (Some a.value) (value_in older v) ≡ Some t → (value_in older v ≡ Some t → before v ≡ plant before (node_tree nodes t))
        → plant (put a.variable u) (before v) ≡ plant (λ k. plant (put a.variable u) (before k)) (node_tree nodes t)
    go true q e h =
        let variables : a.variable ≡ v = eqb-true _ _ q in
        let values : a.value ≡ t = (let z : Some a.value ≡ Some t = e in cc) in
        ap (λ k. plant (put a.variable u) (before k)) (sym variables)
        ∙ ap (plant (put a.variable u)) (trees-free nodes older a.variable w.0)
        ∙ ap (λ b. cond b u (Hole a.variable)) (ap (nat_eq a.variable) variables ∙ q)
        ∙ sym (plant-absent a.variable u u w.1)
        ∙ later (node_tree nodes a.value)
        ∙ ap (λ k. plant (λ k. plant (put a.variable u) (before k)) (node_tree nodes k)) values
    go false q e h = ap (plant (put a.variable u)) (h e) ∙ later (node_tree nodes t)

-- following a variable to its value goes down
pub value_below : (g : Graph) → IsSound g → (t v s : ℕ) (x : VarId) → x.index ≡ v → node_at g.nodes t ≡ Some (Var x) → value_in g.assigned v ≡ Some s → tree_size (tree g s) < tree_size (tree g t)
unfolding tree
value_below g sound t v s x ix e f =
    let here : node_tree g.nodes t ≡ One (Hole v) = over-at layer_tree Leaf g.nodes t (Var x) (names_older (length g.depths) g.nodes sound.made) e ∙ ap (λ k. One (Hole k)) ix in
    let there : tree_size (plant (trees_of g.nodes g.assigned) (node_tree g.nodes t)) ≡ 1 + tree_size (plant (trees_of g.nodes g.assigned) (node_tree g.nodes s)) = ap (λ z. tree_size (plant (trees_of g.nodes g.assigned) z)) here ∙ ap (λ z. 1 + tree_size z) (tree-stands g.nodes g.assigned sound.acyclic v s f) in
    omega (arith, there)
