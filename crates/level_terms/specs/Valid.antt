-- Where a node makes sense.
use Rattle.std.specs.Prelude.{◌≡◌, ℕ, suc, Bool, true, false, ◌&&◌, nat_lt, List, [], ◌∷◌, slice_index}
use Rattle.std.specs.List.{list_all}
use Rattle.level_terms.specs.declared.node.Node.{Node}
use Rattle.level_terms.specs.Graph.{Graph, Assigned}
use Rattle.level_terms.specs.Layer.{Layer, level, abstraction, application, variable, over}

-- every level that is named lies below the depth, an abstraction was made at the depth or further out,
-- and a variable has no more levels than there are
abbrev pub layer_valid : List ℕ → Layer (ℕ → Bool) → ℕ → Bool
layer_valid depths (level l) depth = nat_lt l depth
layer_valid depths (abstraction d b) depth = nat_lt d (suc depth) && b (suc d)
layer_valid depths (application h ts) depth = h depth && list_all (λ t. t depth) ts
layer_valid depths (variable v) depth = nat_lt (slice_index depths v) (suc depth)
layer_valid depths _ depth = true

-- so at the node and below it
unfoldable pub valid : List Node → List ℕ → ℕ → ℕ → Bool
valid nodes depths = over (layer_valid depths) (λ depth. false) nodes

-- the node is valid at a depth
abbrev pub IsValid : Graph → ℕ → ℕ → Type 0
IsValid g t depth = valid g.nodes g.depths t depth ≡ true

-- each value is valid at its variable's depth
abbrev pub AllValid : List Node → List ℕ → List Assigned → Type 0
AllValid nodes depths [] = Unit {0}
AllValid nodes depths (a ∷ older) = (valid nodes depths a.value (slice_index depths a.variable) ≡ true) × AllValid nodes depths older
