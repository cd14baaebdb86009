-- Kinds in a map.
use Rattle.std.specs.Prelude.{◌≡◌, ℕ, List, nat_eq}
use Rattle.indexmap.specs.IndexMap.{IndexMap, get}
use Rattle.decl_types.specs.TypeRules.{Kind, arrows_of}

-- the map has the number of arrows of each of these kinds, and no other
abbrev pub AreKinds : {S : Type 0} → IndexMap ℕ ℕ S → List Kind → Type 0
AreKinds kinds declared = (c : ℕ) → get nat_eq kinds c ≡ arrows_of declared c
