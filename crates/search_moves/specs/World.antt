-- What a search changes, and takes back at a retry.
use Rattle.std.specs.Prelude.{◌≡◌, ℕ, ◌-◌, ◌≤◌, Some, cond, nat_eq, List, [], ◌∷◌, length, drop}
use Rattle.level_terms.specs.declared.node.Node.{Node}
use Rattle.level_terms.specs.declared.node.TermId.{TermId}
use Rattle.level_terms.specs.Graph.{Graph}
use Rattle.level_terms.specs.Valid.{IsValid}
use Rattle.level_terms.specs.Undo as heap
use Rattle.beta_fragment.specs.HeadForm.{AllValidAt}
use Rattle.beta_fragment.specs.Names.{names}
use Rattle.level_terms.specs.Reading.{read}
use Rattle.ref_terms.specs.terms.Term.{Con}
use Rattle.ref_terms.specs.unification.Spine.{head_of}
use Rattle.hyp_clause.specs.declared.hyp.Hyp.{Hyp}
use Rattle.hyp_clause.specs.Hyps.{AllHypsValid}
use Rattle.suspend.specs.declared.constraint.Constraint.{Constraint}
use Rattle.suspend.specs.Store.{Event, stored}
use Rattle.suspend.specs.Keyed.{Keyed}
use Rattle.ref_terms.specs.declared.path.Choice.{Choice}
use Rattle.search_moves.specs.declared.frame.Frame.{Frame}
use Rattle.search_moves.specs.declared.frame.Mark.{Mark}

-- the heap, the frames, the path and the log of the store of suspended goals, all three newest first, and what stays:
-- the nodes of the query's variables, and how many nodes the program's clauses have, which are the oldest
pub record World : Type 0 where
  pub heap : Graph
  pub frames : List Frame
  pub path : List Choice
  pub log : List (Event (List Hyp))
  pub query : List TermId
  pub base : ℕ

-- the oldest so many of a list that stands newest first
abbrev pub oldest : {A : Type 0} → ℕ → List A → List A
oldest n xs = drop (length xs - n) xs

-- how much there is of a world
abbrev pub mark_of : World → Mark
mark_of w = record { heap = heap.mark_of w.heap; frames = length w.frames; path = length w.path; store = record { events = length w.log } }

-- the world without what is past the mark
abbrev pub undone : Mark → World → World
undone m w = record {
  heap = heap.undone m.heap w.heap;
  frames = oldest m.frames w.frames;
  path = oldest m.path w.path;
  log = oldest m.store.events w.log;
  query = w.query;
  base = w.base;
}

-- the mark isn't past what there is
pub record IsWithin (m : Mark) (w : World) : Type 0 where
  pub heap : heap.IsWithin m.heap w.heap
  pub frames : m.frames ≤ length w.frames
  pub path : m.path ≤ length w.path
  pub log : m.store.events ≤ length w.log

-- the frames of a list of goals, first goal first
abbrev pub chain : List Frame → ℕ → List Frame
chain [] n = []
chain (f ∷ older) n = cond (nat_eq (length (f ∷ older)) n) (f ∷ chain older f.next) (chain older n)

-- a hypothetical clause that was assumed under at most so many names, and is headed by its constant
pub record IsUsable (g : Graph) (depth : ℕ) (h : Hyp) : Type 0 where
  pub scope : h.depth ≤ depth
  pub head : head_of (read g h.head.index names) ≡ Some (Con h.pred.0)

-- so one by one
abbrev pub AllUsable : Graph → (depth : ℕ) → List Hyp → Type 0
AllUsable g d [] = Unit {0}
AllUsable g d (h ∷ hs) = IsUsable g d h × AllUsable g d hs

-- these may be the assumptions of a goal under so many names
pub record IsContextAt (g : Graph) (depth : ℕ) (hs : List Hyp) : Type 0 where
  pub valid : AllHypsValid g hs
  pub usable : AllUsable g depth hs

-- each frame's goal and its assumptions are valid at its depth, and the goals after it are older
abbrev pub AllFrames : Graph → List Frame → Type 0
AllFrames g [] = Unit {0}
AllFrames g (f ∷ older) = IsValid g f.term.index f.depth × (f.next ≤ length older) × AllFrames g older × IsContextAt g f.depth f.context

-- a suspended goal, its keys and its assumptions are valid at its names
pub record IsConstraintAt (g : Graph) (c : Constraint (List Hyp)) : Type 0 where
  pub goal : IsValid g c.goal.index c.names
  pub keys : AllValidAt g c.keys c.names
  pub context : IsContextAt g c.names c.context

-- so are all that are stored
abbrev pub AllConstraints : Graph → List (ℕ × Constraint (List Hyp)) → Type 0
AllConstraints g [] = Unit {0}
AllConstraints g (e ∷ es) = IsConstraintAt g e.1 × AllConstraints g es

-- what holds of a world in which these goals are a branch
pub record IsFine (w : World) (first : ℕ) : Type 0 where
  pub frames : AllFrames w.heap w.frames
  pub there : first ≤ length w.frames
  pub query : AllValidAt w.heap w.query 0
  pub code : w.base ≤ length w.heap.nodes
  pub constraints : AllConstraints w.heap (stored w.log)
  pub keyed : Keyed w.log w.heap

-- the nodes of the program's clauses
abbrev pub code_nodes : World → List Node
code_nodes w = oldest w.base w.heap.nodes
