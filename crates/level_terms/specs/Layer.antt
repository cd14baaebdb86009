-- Folds over the nodes of a heap.
use Rattle.std.specs.Prelude.{ℕ, ℤ, List, [], ◌∷◌, map, length, cond, nat_eq}
use Rattle.level_terms.specs.declared.node.Node.{Node}
use Rattle.level_terms.specs.declared.node.Node.TheVariants.{Con, Int, Str, Level, Lam, App, Var}

-- a node, with what stands for each of its parts
pub data Layer (A : Type 0) : Type 0 where
  con : ℕ → Layer A
  int : ℤ → Layer A
  str : ℕ → Layer A
  level : ℕ → Layer A
  abstraction : (depth : ℕ) → A → Layer A
  application : A → List A → Layer A
  variable : ℕ → Layer A

-- the layer of a node, where each node stands for something
abbrev pub layer_of : {A : Type 0} → (ℕ → A) → Node → Layer A
layer_of f (Con c) = con c.0
layer_of f (Int n) = int n
layer_of f (Str s) = str s.0
layer_of f (Level l) = level l
layer_of f (Lam d b) = abstraction d (f b.index)
layer_of f (App h ts) = application (f h.index) (map (λ t. f t.index) ts)
layer_of f (Var v) = variable v.index

-- what a node stands for, by what its parts stand for; `none` for a number that no node has
abbrev pub over : {A : Type 0} → (Layer A → A) → A → List Node → ℕ → A
over step none [] t = none
over step none (n ∷ older) t = cond (nat_eq (length older) t) (step (layer_of (over step none older) n)) (over step none older t)
