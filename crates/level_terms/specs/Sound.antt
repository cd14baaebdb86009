-- What holds of every heap.
use Rattle.std.specs.Prelude.{ℕ, ◌<◌, List, [], ◌∷◌, length, Option, Some}
use Rattle.level_terms.specs.declared.node.Node.{Node}
use Rattle.level_terms.specs.declared.node.Node.TheVariants.{Lam, App, Var}
use Rattle.level_terms.specs.declared.node.TermId.{TermId}
use Rattle.level_terms.specs.Graph.{Graph, Assigned, node_at}
use Rattle.level_terms.specs.Valid.{AllValid}
use Rattle.level_terms.specs.Reached.{NoCycle}

-- each number is that of one of so many nodes
abbrev pub AllOlder : ℕ → List TermId → Type 0
AllOlder m [] = Unit {0}
AllOlder m (t ∷ ts) = (t.index < m) × AllOlder m ts

-- no application
abbrev pub IsHead : Option Node → Type 0
IsHead (Some (App h ts)) = ⊥
IsHead _ = Unit {0}

-- what a node may name: older nodes and known variables; an application has arguments, and a head that is none
abbrev pub IsMade : List Node → (variables : ℕ) → Node → Type 0
IsMade older variables (Lam d b) = b.index < length older
IsMade older variables (App h ts) = (h.index < length older) × IsHead (node_at older h.index) × AllOlder (length older) ts × (0 < length ts)
IsMade older variables (Var v) = v.index < variables
IsMade older variables _ = Unit {0}

-- each node names what was there
abbrev pub AllMade : ℕ → List Node → Type 0
AllMade variables [] = Unit {0}
AllMade variables (n ∷ older) = IsMade older variables n × AllMade variables older

-- each assignment names what is there
abbrev pub AllAssigned : (nodes variables : ℕ) → List Assigned → Type 0
AllAssigned nodes variables [] = Unit {0}
AllAssigned nodes variables (a ∷ older) = (a.value < nodes) × (a.variable < variables) × AllAssigned nodes variables older

-- what is named is there, values are valid, and no variable is reached from its own value
pub record IsSound (g : Graph) : Type 0 where
  pub made : AllMade (length g.depths) g.nodes
  pub assigned : AllAssigned (length g.nodes) (length g.depths) g.assigned
  pub valid : AllValid g.nodes g.depths g.assigned
  pub acyclic : NoCycle g.nodes g.assigned
