-- What is reached from a node, with nothing contracted and nothing dropped.
use Rattle.std.specs.Prelude.{◌≡◌, ℕ, ◌+◌, ◌||◌, Bool, false, List, [], ◌∷◌, None, cond, nat_eq}
use Rattle.level_terms.specs.declared.node.Node.{Node}
use Rattle.level_terms.specs.Graph.{Graph, Assigned, value_in}
use Rattle.level_terms.specs.Layer.{Layer, abstraction, application, variable, over}

-- a leaf, a variable without a value, and what stands above one or two others
pub data Tree : Type 0 where
  Leaf : Tree
  Hole : ℕ → Tree
  One : Tree → Tree
  Two : Tree → Tree → Tree

-- a tree in place of each variable
abbrev pub plant : (ℕ → Tree) → Tree → Tree
plant u Leaf = Leaf
plant u (Hole v) = u v
plant u (One a) = One (plant u a)
plant u (Two a b) = Two (plant u a) (plant u b)

-- the variable stands in the tree
abbrev pub reaches : ℕ → Tree → Bool
reaches v Leaf = false
reaches v (Hole w) = nat_eq v w
reaches v (One a) = reaches v a
reaches v (Two a b) = reaches v a || reaches v b

-- how large the tree is
abbrev pub tree_size : Tree → ℕ
tree_size Leaf = 1
tree_size (Hole v) = 1
tree_size (One a) = 1 + tree_size a
tree_size (Two a b) = 1 + (tree_size a + tree_size b)

-- a tree and those of its arguments
abbrev pub grown : Tree → List Tree → Tree
grown t [] = One t
grown t (a ∷ more) = Two a (grown t more)

-- the tree of a layer: an assigned variable will stand above its value
abbrev pub layer_tree : Layer Tree → Tree
layer_tree (abstraction d b) = One b
layer_tree (application h ts) = grown h ts
layer_tree (variable v) = One (Hole v)
layer_tree _ = Leaf

-- the tree of a node, in which each variable stands for itself
abbrev pub node_tree : List Node → ℕ → Tree
node_tree nodes = over layer_tree Leaf nodes

-- a tree for one variable alone
abbrev pub put : ℕ → Tree → ℕ → Tree
put v t w = cond (nat_eq v w) t (Hole w)

-- the tree of each variable's value
unfoldable pub trees_of : List Node → List Assigned → ℕ → Tree
trees_of nodes [] v = Hole v
trees_of nodes (a ∷ older) v = plant (put a.variable (plant (trees_of nodes older) (node_tree nodes a.value))) (trees_of nodes older v)

-- all that is reached from a node, also through values
unfoldable pub tree : Graph → ℕ → Tree
tree g t = plant (trees_of g.nodes g.assigned) (node_tree g.nodes t)

-- the variable isn't reached from the node
abbrev pub IsUnreached : Graph → (v t : ℕ) → Type 0
IsUnreached g v t = reaches v (tree g t) ≡ false

-- each variable was assigned once, and to a node from which it wasn't reached; so every reading is finite
abbrev pub NoCycle : List Node → List Assigned → Type 0
NoCycle nodes [] = Unit {0}
NoCycle nodes (a ∷ older) = (value_in older a.variable ≡ None) × (reaches a.variable (plant (trees_of nodes older) (node_tree nodes a.value)) ≡ false) × NoCycle nodes older
