-- Principal types, and why a program has no typing.
use Rattle.std.specs.Prelude.{◌≡◌, ℕ, List, length, map, Option}
use Rattle.type_graph.specs.Types.{Ty}
use Rattle.type_graph.specs.Graph.{Solves, node_at, IsMostGeneral}
use Rattle.type_terms.specs.declared.scheme.Polytype.{Polytype}
use Rattle.type_terms.specs.Read.{AreNodes}
use Rattle.type_check.specs.declared.error.TypeError.{TypeError}
use Rattle.type_check.specs.declared.error.TypeError.TheVariants.{Broken, Memory}
use Rattle.decl_trees.specs.declared.rule.TypeRule.TheVariants.{Y1, Y2, Y3, Y4}
use Rattle.type_check.specs.declared.inferring.Typing.{Typing}
use Rattle.type_check.specs.Typings.{Item, IsTyping, IsUntypedAt}

-- Principal types, as nodes: the types that typings give to the constants are those that the solutions of the graph give to
-- their nodes, and whatever types its free nodes have, there is exactly one solution.
pub record IsPrincipal (declared : ℕ → Option Polytype) (count : ℕ) (items : List Item) (t : Typing) : Type 0 where
  pub nodes : AreNodes t.graph t.constants.items
  pub each : length t.constants.items ≡ count
  pub typings : (v : ℕ → Ty) → Solves (node_at t.graph) v → IsTyping declared count items (map v t.constants.items)
  pub instances : (constants : List Ty) → IsTyping declared count items constants → (v : ℕ → Ty) × Solves (node_at t.graph) v × (map v t.constants.items ≡ constants)
  pub general : IsMostGeneral (node_at t.graph)

-- Y4 is broken at this place; want of memory may come at any time
abbrev pub IsUntyped : (declared : ℕ → Option Polytype) → (count : ℕ) → List Item → TypeError → Type 0
IsUntyped declared count items (Broken Y4 place) = IsUntypedAt declared count items place
IsUntyped declared count items (Broken Y1 place) = ⊥
IsUntyped declared count items (Broken Y2 place) = ⊥
IsUntyped declared count items (Broken Y3 place) = ⊥
IsUntyped declared count items Memory = Unit {0}
