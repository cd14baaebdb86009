-- The nodes of a variable over levels.
use Rattle.std.specs.Prelude.{◌≡◌, ℕ, List, [], ◌∷◌, Some}
use Rattle.level_terms.specs.declared.node.Node.TheVariants.{Level, App, Var}
use Rattle.level_terms.specs.declared.node.TermId.{TermId}
use Rattle.level_terms.specs.declared.node.VarId.{VarId}
use Rattle.level_terms.specs.Graph.{Graph, node_at}

-- the nodes are these levels
abbrev pub AreLevels : Graph → List TermId → List ℕ → Type 0
AreLevels g [] [] = Unit {0}
AreLevels g [] (k ∷ ks) = ⊥
AreLevels g (t ∷ ts) [] = ⊥
AreLevels g (t ∷ ts) (k ∷ ks) = (node_at g.nodes t.index ≡ Some (Level k)) × AreLevels g ts ks

-- a head and its arguments, of which the head is the variable, and the arguments these levels
pub record IsSpineOf (g : Graph) (t : ℕ) (x : VarId) (levels : List ℕ) : Type 0 where
  pub head : TermId
  pub args : List TermId
  pub node : node_at g.nodes t ≡ Some (App head args)
  pub variable : node_at g.nodes head.index ≡ Some (Var x)
  pub are : AreLevels g args levels

-- the node is the variable applied to levels
abbrev pub IsVarOver : Graph → (t : ℕ) → VarId → List ℕ → Type 0
IsVarOver g t x [] = node_at g.nodes t ≡ Some (Var x)
IsVarOver g t x (k ∷ ks) = IsSpineOf g t x (k ∷ ks)
