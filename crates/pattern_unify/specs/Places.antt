-- Places that are still to be looked at, where a node is tested for validity.
use Rattle.std.specs.Prelude.{ℕ, suc, ◌<◌, ◌+◌, Bool, true, nat_lt, List, [], ◌∷◌, map, slice_index, Option, Some, None}
use Rattle.level_terms.specs.declared.node.Node.{Node}
use Rattle.level_terms.specs.declared.node.Node.TheVariants.{Level, Lam, App, Var}
use Rattle.level_terms.specs.declared.node.TermId.{TermId}
use Rattle.level_terms.specs.Graph.{Graph}
use Rattle.level_terms.specs.Reached.{tree, tree_size}
use Rattle.level_terms.specs.Valid.{valid}
use Rattle.pattern_unify.specs.declared.validity.Place.{Place}

-- how many levels are in scope below and with the innermost one
abbrev pub scope_of : Option ℕ → ℕ
scope_of None = 0
scope_of (Some level) = suc level

-- what stands at the node itself is in scope
abbrev pub own_valid : List ℕ → Node → ℕ → Bool
own_valid depths (Level l) depth = nat_lt l depth
own_valid depths (Lam d b) depth = nat_lt d (suc depth)
own_valid depths (Var v) depth = nat_lt (slice_index depths v.index) (suc depth)
own_valid depths _ depth = true

-- a node under the innermost level
abbrev pub place_at : Option ℕ → TermId → Place
place_at innermost t = record { node = t; innermost = innermost }

-- the places of a node's parts
abbrev pub places_of : Node → Option ℕ → List Place
places_of (Lam d b) innermost = place_at (Some d) b ∷ []
places_of (App h ts) innermost = place_at innermost h ∷ map (place_at innermost) ts
places_of _ innermost = []

-- the node is valid there
abbrev pub valid_there : Graph → Place → Bool
valid_there g p = valid g.nodes g.depths p.node.index (scope_of p.innermost)

-- all places have nodes that are there
abbrev pub AllPlaces : (nodes : ℕ) → List Place → Type 0
AllPlaces nodes [] = Unit {0}
AllPlaces nodes (p ∷ more) = (p.node.index < nodes) × AllPlaces nodes more

-- how large all is that is reached from them
abbrev pub places_size : Graph → List Place → ℕ
places_size g [] = 0
places_size g (p ∷ more) = tree_size (tree g p.node.index) + places_size g more
