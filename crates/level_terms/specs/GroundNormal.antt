-- Nodes in which nothing can change: neither a variable nor an applied abstraction stands in them.
use Rattle.std.specs.Prelude.{◌≡◌, ℕ, Bool, true, false, not, ◌&&◌, List}
use Rattle.std.specs.List.{list_all}
use Rattle.level_terms.specs.declared.node.Node.{Node}
use Rattle.level_terms.specs.Graph.{Graph}
use Rattle.level_terms.specs.Layer.{Layer, abstraction, application, variable, over}
use Rattle.ref_terms.specs.terms.Term.{Term, Lam, At, App, Var}

-- whether a node is an abstraction, and whether neither a variable nor an applied abstraction stands in it
pub record Look : Type 0 where
  pub is_lam : Bool
  pub is_fixed : Bool

-- so of a layer
abbrev pub layer_look : Layer Look → Look
layer_look (abstraction d b) = record { is_lam = true; is_fixed = b.is_fixed }
layer_look (application h ts) = record { is_lam = false; is_fixed = not h.is_lam && (h.is_fixed && list_all (λ t. t.is_fixed) ts) }
layer_look (variable v) = record { is_lam = false; is_fixed = false }
layer_look _ = record { is_lam = false; is_fixed = true }

-- so of a node
abbrev pub look_at : List Node → ℕ → Look
look_at nodes = over layer_look (record { is_lam = false; is_fixed = false }) nodes

-- the test alone
abbrev pub ground_normal : List Node → ℕ → Bool
ground_normal nodes t = (look_at nodes t).is_fixed

-- neither a variable nor an applied abstraction stands in the node
abbrev pub IsGroundNormal : Graph → ℕ → Type 0
IsGroundNormal g t = ground_normal g.nodes t ≡ true

-- whether a term is an abstraction
abbrev pub is_lam : Term → Bool
is_lam (Lam b) = true
is_lam (At h) = false
is_lam (App f a) = false

-- whether neither a variable nor a stuck abstraction stands in a term
abbrev pub is_ground_normal : Term → Bool
is_ground_normal (Lam b) = is_ground_normal b
is_ground_normal (At (Var v)) = false
is_ground_normal (At _) = true
is_ground_normal (App f a) = not (is_lam f) && (is_ground_normal f && is_ground_normal a)
