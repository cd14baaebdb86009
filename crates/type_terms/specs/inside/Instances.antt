-- Types over nodes.
use Rattle.std.specs.Prelude.{◌≡◌, ℕ, List, map}
use Rattle.type_graph.specs.Types.{Ty}
use Rattle.type_terms.specs.declared.scheme.Scheme.{Scheme}
use Rattle.type_terms.specs.Schemes.{instance, type_at}

-- the type whose variables have the types of these nodes
abbrev pub IsOver : List ℕ → Scheme → (ℕ → Ty) → Ty → Type 0
IsOver nodes s v t = t ≡ instance (type_at (map v nodes)) s
