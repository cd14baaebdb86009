-- Types with variables, and principal types.
use Rattle.std.specs.Prelude.{◌≡◌, ℕ, List, length, map, Option}
use Rattle.type_graph.specs.declared.node.Word.{Word}
use Rattle.type_graph.specs.Types.{Ty, word, applied}
use Rattle.type_terms.specs.declared.scheme.Polytype.{Polytype}
use Rattle.type_check.specs.Typings.{Item, IsTyping}

-- a type with variables, which are known by numbers; the arrow from a to b is the word Arrow applied to a and to b
pub data OpenType : Type 0 where
  open_variable : ℕ → OpenType
  open_word : Word → OpenType
  open_applied : OpenType → OpenType → OpenType

-- the type with these types for its variables
abbrev pub instance : (ℕ → Ty) → OpenType → Ty
instance f (open_variable x) = f x
instance f (open_word w) = word w
instance f (open_applied a b) = applied (instance f a) (instance f b)

-- Principal types, one for each constant: the types that typings give to the constants are exactly their instances, one
-- instance for all.
pub record ArePrincipal (declared : ℕ → Option Polytype) (count : ℕ) (items : List Item) (types : List OpenType) : Type 0 where
  pub each : length types ≡ count
  pub typings : (f : ℕ → Ty) → IsTyping declared count items (map (instance f) types)
  pub instances : (constants : List Ty) → IsTyping declared count items constants → (f : ℕ → Ty) × (map (instance f) types ≡ constants)
