-- Hypothetical clauses in a heap.
use Rattle.std.specs.Prelude.{◌≡◌, ℕ, ◌+◌, Bool, List, [], ◌∷◌}
use Rattle.std.specs.List.{list_all}
use Rattle.level_terms.specs.declared.node.TermId.{TermId}
use Rattle.level_terms.specs.GroundNormal.{ground_normal}
use Rattle.ref_terms.specs.search.Assumption.{Assumption}
use Rattle.ref_terms.specs.search.Fault.{Judged, Bad}
use Rattle.level_terms.specs.Graph.{Graph}
use Rattle.level_terms.specs.Reading.{read}
use Rattle.level_terms.specs.Valid.{IsValid}
use Rattle.beta_fragment.specs.Names.{names}
use Rattle.beta_fragment.specs.HeadForm.{all_read, AllValidAt}
use Rattle.hyp_clause.specs.declared.hyp.Hyp.{Hyp}
use Rattle.hyp_clause.specs.declared.hyp.HypStop.{HypStop}
use Rattle.hyp_clause.specs.declared.hyp.HypStop.TheVariants.{Fault, Memory}

-- what a hypothetical clause reads as: its parameters are the names from its depth on
abbrev pub assumption_in : Graph → Hyp → Assumption
assumption_in g h = record {
  pred = h.pred.0;
  scope = h.depth;
  parameters = h.pis;
  head = read g h.head.index names;
  conditions = all_read g h.body;
  assumed = read g h.term.index names;
}

-- the nodes of a hypothetical clause
abbrev pub nodes_of : Hyp → List TermId
nodes_of h = h.head ∷ h.term ∷ h.body

-- neither a variable nor an applied abstraction stands in any of these nodes
abbrev pub all_ground_normal : Graph → List TermId → Bool
all_ground_normal g ts = list_all (λ t. ground_normal g.nodes t.index) ts

-- the nodes of a hypothetical clause are valid, those of its parts under its parameters too, and its flag says whether something in them can change
pub record IsHypValid (g : Graph) (h : Hyp) : Type 0 where
  pub head : IsValid g h.head.index (h.depth + h.pis)
  pub body : AllValidAt g h.body (h.depth + h.pis)
  pub term : IsValid g h.term.index h.depth
  pub flag : h.ground_normal ≡ all_ground_normal g (nodes_of h)

-- so one by one
abbrev pub AllHypsValid : Graph → List Hyp → Type 0
AllHypsValid g [] = Unit {0}
AllHypsValid g (h ∷ hs) = IsHypValid g h × AllHypsValid g hs

-- each was assumed at a depth
abbrev pub AllAtDepth : ℕ → List Hyp → Type 0
AllAtDepth depth [] = Unit {0}
AllAtDepth depth (h ∷ hs) = (h.depth ≡ depth) × AllAtDepth depth hs

-- the fault that decides
abbrev pub IsHypFault : HypStop → Judged (List Assumption) → Type 0
IsHypFault (Fault f) j = j ≡ Bad f
IsHypFault Memory j = Unit {0}
