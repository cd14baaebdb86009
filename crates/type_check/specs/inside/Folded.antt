-- What is known after some clauses and rules.
use Rattle.std.specs.Prelude.{◌≡◌, ◌<◌, ◌+◌, ℕ, List, length, map, take, All, Option, Some, None, slice_index_or}
use Rattle.lp_parser.specs.declared.ast.Place.{Place}
use Rattle.type_graph.specs.declared.node.Node.{Node}
use Rattle.type_graph.specs.Types.{Ty}
use Rattle.type_graph.specs.Graph.{Solves, node_at}
use Rattle.type_terms.specs.declared.scheme.Polytype.{Polytype}
use Rattle.type_terms.specs.Demands.{Meets}
use Rattle.type_check.specs.declared.places.Entry.{Entry}
use Rattle.type_check.specs.Typings.{HasItemTyping}
use Rattle.type_check.specs.inside.Order.{item_of}

module _ (declared : ℕ → Option Polytype) (constants : List ℕ) where
  -- where v gives the constants' nodes their types, each of these clauses and rules has a typing
  abbrev pub AreTyped : List Entry → (ℕ → Ty) → Type 0
  AreTyped entries v = All (λ e. HasItemTyping declared (map v constants) (item_of e)) entries

  -- the one at k has none together with those before it, which have one
  pub record IsStuck (ns : List Node) (entries : List Entry) (place : Place) : Type 0 where
    pub k : ℕ
    pub within : k < length entries
    pub at : (d : Entry) → place ≡ (slice_index_or entries k d).place
    pub typed : (v : ℕ → Ty) × Solves (node_at ns) v × AreTyped (take k entries) v
    pub untyped : (v : ℕ → Ty) → Solves (node_at ns) v → AreTyped (take (k + 1) entries) v → ⊥

  -- all of them have typings together, or one of them is the first that has none
  abbrev pub Types : (ns ns' : List Node) → List Entry → Option Place → Type 0
  Types ns ns' entries None = Meets ns ns' (AreTyped entries)
  Types ns ns' entries (Some place) = IsStuck ns entries place
