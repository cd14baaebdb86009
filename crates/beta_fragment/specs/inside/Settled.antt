-- Terms that are taken apart at their front.
use Rattle.std.specs.Prelude.{◌≡◌, ℕ, ◌<◌, List, [], ◌∷◌, reverse, Option, Some}
use Rattle.level_terms.specs.declared.node.Node.{Node}
use Rattle.level_terms.specs.declared.node.Node.TheVariants.{App}
use Rattle.level_terms.specs.declared.node.TermId.{TermId}
use Rattle.level_terms.specs.Graph.{Graph, node_at}
use Rattle.ref_terms.specs.terms.Term.{Term}
use Rattle.ref_terms.specs.terms.Built.{IsBuilt, IsStuck}
use Rattle.ref_terms.specs.unification.Spine.{apply_all}
use Rattle.beta_fragment.specs.HeadForm.{AllValidAt, all_read}
use Rattle.beta_fragment.specs.Firm.{IsPlainNode}
use Rattle.beta_fragment.specs.Quoted.{AllIndicesBelow, AllNamesBelow, AllHeads, IsOpenHead}
use Rattle.beta_fragment.specs.declared.renaming.Task.{Task}
use Rattle.beta_fragment.specs.declared.renaming.Task.TheVariants.{Visit}

-- a term that nodes valid at a depth can read as
pub record IsQuotable (g : Graph) (depth : ℕ) (u : Term) : Type 0 where
  pub built : IsBuilt u
  pub closed : AllIndicesBelow 0 u
  pub low : AllNamesBelow depth u
  pub variables : AllHeads (IsOpenHead g) u

-- the term doesn't take the first of the arguments, if there is one
abbrev pub IsHeld : Term → List Term → Type 0
IsHeld f [] = Unit {0}
IsHeld f (a ∷ more) = IsStuck f a

-- the term u is f before arguments, of which the first is the last in the list
pub record IsUnwound (g : Graph) (depth : ℕ) (u f : Term) (args : List TermId) : Type 0 where
  pub reads : u ≡ apply_all f (all_read g (reverse args))
  pub valid : AllValidAt g (reverse args) depth
  pub held : IsHeld f (all_read g (reverse args))
  pub quotable : IsQuotable g depth f

-- if the node is an application, its head is no abstraction
abbrev pub HasPlainHead : Graph → Option Node → Type 0
HasPlainHead g (Some (App h ts)) = IsPlainNode g h.index
HasPlainHead g _ = Unit {0}

-- so of the node that a task visits
abbrev pub IsDirect : Graph → Task → Type 0
IsDirect g (Visit n b) = HasPlainHead g (node_at g.nodes n.index)
IsDirect g _ = Unit {0}

-- the node that a task visits is there
abbrev pub IsTaskThere : ℕ → Task → Type 0
IsTaskThere nodes (Visit n b) = n.index < nodes
IsTaskThere nodes _ = Unit {0}
