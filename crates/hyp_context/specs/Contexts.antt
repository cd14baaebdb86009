-- Contexts in a heap.
use Rattle.std.specs.Prelude.{◌≡◌, ◌≤◌, ℕ, not, nat_eq, filter, List, [], ◌∷◌, ◌++◌, map}
use Rattle.std.specs.List.{list_any}
use Rattle.ref_terms.specs.unification.Problem.{Binding}
use Rattle.ref_terms.specs.search.Branch.{bound, bound_assumption}
use Rattle.ref_terms.specs.search.Touched.{assumption_has}
use Rattle.level_terms.specs.declared.node.Change.{Change}
use Rattle.level_terms.specs.Reading.{read}
use Rattle.level_terms.specs.Undo.{undone, mark_of}
use Rattle.level_terms.specs.Valid.{IsValid}
use Rattle.beta_fragment.specs.Names.{names}
use Rattle.ref_terms.specs.terms.Term.{Term}
use Rattle.ref_terms.specs.search.Assumption.{Assumption, assumptions_of}
use Rattle.ref_terms.specs.search.Fault.{Good}
use Rattle.ref_terms.specs.search.Candidates.{assumptions_for}
use Rattle.level_terms.specs.Graph.{Graph}
use Rattle.level_terms.specs.Growth.{Grows}
use Rattle.level_terms.specs.Sound.{IsSound}
use Rattle.hyp_clause.specs.declared.hyp.Hyp.{Hyp}
use Rattle.hyp_clause.specs.Hyps.{assumption_in, AllHypsValid}
use Rattle.hyp_clause.specs.Headed.{AllHeaded}

-- those of a predicate, in order
abbrev pub hyps_for : ℕ → List Hyp → List Hyp
hyps_for p hs = filter (λ h. nat_eq p h.pred.0) hs

-- those in which something can change, in order
abbrev pub changeable_hyps : List Hyp → List Hyp
changeable_hyps hs = filter (λ h. not h.ground_normal) hs

-- none was assumed deeper than at a depth
abbrev pub AllWithinDepth : ℕ → List Hyp → Type 0
AllWithinDepth depth [] = Unit {0}
AllWithinDepth depth (h ∷ hs) = (h.depth ≤ depth) × AllWithinDepth depth hs

-- a context at a depth reads as these assumptions: its nodes are valid, none was assumed deeper, and each has its constant at the head
pub record IsContext (g : Graph) (depth : ℕ) (hs : List Hyp) (assumptions : List Assumption) : Type 0 where
  pub reads : map (assumption_in g) hs ≡ assumptions
  pub valid : AllHypsValid g hs
  pub within : AllWithinDepth depth hs
  pub headed : AllHeaded assumptions

-- no assumptions
abbrev pub EmptyIsContext : Type 0
EmptyIsContext = (g : Graph) (depth : ℕ) → IsContext g depth [] []

-- the clauses that a term assumes
abbrev pub AssumedAreContext : Type 0
AssumedAreContext = (g : Graph) (depth : ℕ) (t : Term) (hs : List Hyp) → Good (map (assumption_in g) hs) ≡ assumptions_of depth t → AllHypsValid g hs → IsContext g depth hs (map (assumption_in g) hs)

-- with more in front it reads as these before the older ones
abbrev pub AssumedReads : Type 0
AssumedReads = (g : Graph) (depth : ℕ) (hs older : List Hyp) (new assumptions : List Assumption) → IsContext g depth hs new → IsContext g depth older assumptions → IsContext g depth (hs ++ older) (new ++ assumptions)

-- it reads the same at a deeper depth
abbrev pub ContextsDeeper : Type 0
ContextsDeeper = (g : Graph) (depth deeper : ℕ) (hs : List Hyp) (assumptions : List Assumption) → depth ≤ deeper → IsContext g depth hs assumptions → IsContext g deeper hs assumptions

-- those of a predicate read as its assumptions
abbrev pub ForPredReads : Type 0
ForPredReads = (g : Graph) (depth p : ℕ) (hs : List Hyp) (assumptions : List Assumption) → IsContext g depth hs assumptions → IsContext g depth (hyps_for p hs) (assumptions_for p assumptions)

-- a growth that notes nothing leaves what it reads as
abbrev pub GrowthKeepsContexts : Type 0
GrowthKeepsContexts = (g h : Graph) (depth : ℕ) (hs : List Hyp) (assumptions : List Assumption) → IsSound g → Grows g h [] [] → IsContext g depth hs assumptions → IsContext h depth hs assumptions

-- where bindings change what each node reads as, they change what the context reads as
abbrev pub BindingsReachContexts : Type 0
BindingsReachContexts = (g h : Graph) (r s : List Change) (bs : List Binding) (depth : ℕ) (hs : List Hyp) (assumptions : List Assumption) → IsSound g → Grows g h r s → ((t d : ℕ) → IsValid g t d → read h t names ≡ bound bs (read g t names)) →
    IsContext g depth hs assumptions → IsContext h depth hs (map (bound_assumption bs) assumptions)

-- going back to a mark gives what the context read as there, whatever was done since
abbrev pub UndoRestoresContexts : Type 0
UndoRestoresContexts = (g h : Graph) (r s : List Change) (depth : ℕ) (hs : List Hyp) (assumptions : List Assumption) → Grows g h r s → IsContext g depth hs assumptions → IsContext (undone (mark_of g) h) depth hs assumptions

-- a variable stands in one of the assumptions exactly where it stands in one in which something can change
abbrev pub VariablesAreInChangeable : Type 0
VariablesAreInChangeable = (g : Graph) (v : ℕ) (hs : List Hyp) → AllHypsValid g hs → list_any (assumption_has v) (map (assumption_in g) hs) ≡ list_any (assumption_has v) (map (assumption_in g) (changeable_hyps hs))

-- whatever a call may change, a context in which nothing can change reads the same
abbrev pub UnchangeableReadTheSame : Type 0
UnchangeableReadTheSame = (g h : Graph) (r s : List Change) (hs : List Hyp) → IsSound g → Grows g h r s → AllHypsValid g hs → changeable_hyps hs ≡ [] → map (assumption_in h) hs ≡ map (assumption_in g) hs
