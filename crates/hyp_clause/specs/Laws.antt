-- What the laws on hypothetical clauses say.
use Rattle.std.specs.Prelude.{◌≡◌, ℕ, ◌<◌, List, [], ◌∷◌, map, length}
use Rattle.ref_terms.specs.unification.Problem.{Binding}
use Rattle.ref_terms.specs.search.Branch.{bound, bound_assumption}
use Rattle.level_terms.specs.declared.node.TermId.{TermId}
use Rattle.level_terms.specs.declared.node.Change.{Change}
use Rattle.level_terms.specs.declared.node.HeapMark.{HeapMark}
use Rattle.level_terms.specs.Graph.{Graph}
use Rattle.level_terms.specs.Growth.{Grows}
use Rattle.level_terms.specs.Reading.{read}
use Rattle.level_terms.specs.Sound.{IsSound}
use Rattle.level_terms.specs.Undo.{undone, CanUndo}
use Rattle.level_terms.specs.Valid.{IsValid}
use Rattle.beta_fragment.specs.Names.{names}
use Rattle.hyp_clause.specs.declared.hyp.Hyp.{Hyp}
use Rattle.hyp_clause.specs.Hyps.{assumption_in, AllHypsValid}

-- whatever a call may change leaves hypothetical clauses valid
abbrev pub GrowthKeepsHyps : Type 0
GrowthKeepsHyps = (g h : Graph) (r s : List Change) (xs : List Hyp) → IsSound g → Grows g h r s → AllHypsValid g xs → AllHypsValid h xs

-- and what they read as, where it notes nothing
abbrev pub GrowthKeepsAssumptions : Type 0
GrowthKeepsAssumptions = (g h : Graph) (xs : List Hyp) → IsSound g → Grows g h [] [] → AllHypsValid g xs → map (assumption_in h) xs ≡ map (assumption_in g) xs

-- bindings that change what each node reads as change what the clauses read as
abbrev pub BindingsReachAssumptions : Type 0
BindingsReachAssumptions = (g h : Graph) (bs : List Binding) (xs : List Hyp) → ((t depth : ℕ) → IsValid g t depth → read h t names ≡ bound bs (read g t names)) → AllHypsValid g xs →
    map (assumption_in h) xs ≡ map (bound_assumption bs) (map (assumption_in g) xs)

-- these nodes are older than a number
abbrev pub AllNodesBelow : ℕ → List TermId → Type 0
AllNodesBelow n [] = Unit {0}
AllNodesBelow n (t ∷ ts) = (t.index < n) × AllNodesBelow n ts

-- so are those of a hypothetical clause
pub record IsHypBelow (n : ℕ) (h : Hyp) : Type 0 where
  pub head : h.head.index < n
  pub body : AllNodesBelow n h.body
  pub term : h.term.index < n

-- one by one
abbrev pub AllHypsBelow : ℕ → List Hyp → Type 0
AllHypsBelow n [] = Unit {0}
AllHypsBelow n (h ∷ hs) = IsHypBelow n h × AllHypsBelow n hs

-- the nodes of valid clauses are there
abbrev pub ValidHypsAreBelow : Type 0
ValidHypsAreBelow = (g : Graph) (xs : List Hyp) → AllHypsValid g xs → AllHypsBelow (length g.nodes) xs

-- undoing to a mark leaves those valid that were made before it
abbrev pub UndoKeepsHyps : Type 0
UndoKeepsHyps = (g : Graph) (m : HeapMark) (noted : List Change) (xs : List Hyp) → CanUndo m g noted → AllHypsBelow m.nodes xs → AllHypsValid g xs → AllHypsValid (undone m g) xs
