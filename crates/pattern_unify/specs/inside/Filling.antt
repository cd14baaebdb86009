-- Nodes that are made anew with the values of their variables.
use Rattle.std.specs.Prelude.{◌≡◌, ℕ, ◌+◌, ◌*◌, ◌<◌, ◌≤◌, true, List, [], ◌∷◌, ◌++◌, length, map, reverse}
use Rattle.level_terms.specs.declared.node.TermId.{TermId}
use Rattle.level_terms.specs.Graph.{Graph, node_at}
use Rattle.level_terms.specs.Growth.{Grows}
use Rattle.level_terms.specs.Laws.{ArePlaces}
use Rattle.level_terms.specs.Reached.{tree, tree_size}
use Rattle.level_terms.specs.Reading.{read}
use Rattle.level_terms.specs.Sound.{IsSound, IsHead}
use Rattle.level_terms.specs.Valid.{IsValid}
use Rattle.level_terms.specs.Values.{Value, value_of, IsAppOf}
use Rattle.ref_terms.specs.terms.Term.{Term}
use Rattle.pattern_unify.specs.declared.filling.Task.{Task}
use Rattle.pattern_unify.specs.declared.filling.Task.TheVariants.{Visit, App}

-- what reads as a node and is valid where that is
pub record Fills (g : Graph) (t : ℕ) (x : Value) : Type 0 where
  pub term : (env : ℕ → Term) → ArePlaces env → x.term env ≡ read g t env
  pub holds : (e : ℕ) → IsValid g t e → x.holds e ≡ true

-- so of nodes, each for its own
abbrev pub AllFill : Graph → List TermId → List Value → Type 0
AllFill g [] [] = Unit {0}
AllFill g [] (x ∷ xs) = ⊥
AllFill g (t ∷ ts) [] = ⊥
AllFill g (t ∷ ts) (x ∷ xs) = Fills g t.index x × AllFill g ts xs

-- whatever values meet what the tasks ask for, newest task first, what is left at last reads as the node t
abbrev pub Leads : Graph → (t : ℕ) → List Task → List Value → Type 0
Leads g t [] [] = ⊥
Leads g t [] (x ∷ []) = Fills g t x
Leads g t [] (x ∷ y ∷ more) = ⊥
Leads g t (Visit n ∷ k) xs = (n.index < length g.nodes) × ((x : Value) → Fills g n.index x → Leads g t k (xs ++ x ∷ []))
Leads g t (App h m ∷ k) xs = (h.index < length g.nodes) × IsHead (node_at g.nodes h.index) × (0 < m) × (front : List Value) × (args : List Value) × (xs ≡ front ++ args) × (length args ≡ m) × ((x : Value) → IsAppOf (value_of g h) args x → Leads g t k (front ++ x ∷ []))

-- how much there is to do
abbrev pub task_size : Graph → Task → ℕ
task_size g (Visit n) = 2 * tree_size (tree g n.index)
task_size g (App h m) = 1

abbrev pub work_size : Graph → List Task → ℕ
work_size g [] = 0
work_size g (k ∷ more) = task_size g k + work_size g more

-- the heap, the tasks, oldest first, and the nodes that are done, oldest first
pub record State : Type 0 where
  pub heap : Graph
  pub work : List Task
  pub done : List TermId

-- in a heap g that the state's heap grew from, the tasks lead to what reads as the node t
abbrev pub IsLeading : Graph → (t : ℕ) → State → Type 0
IsLeading g t st = Leads g t (reverse st.work) (map (value_of st.heap) st.done)

-- a step keeps what the tasks lead to, and leaves less to do
pub record Steps (old new : State) : Type 0 where
  pub leads : (g : Graph) (t : ℕ) → IsSound g → Grows g old.heap [] [] → IsLeading g t old → IsLeading g t new
  pub falls : (g : Graph) (t : ℕ) → IsSound g → Grows g old.heap [] [] → IsLeading g t old → work_size g (reverse new.work) < work_size g (reverse old.work)

-- visits of nodes, in order
abbrev pub visits : List TermId → List Task
visits [] = []
visits (t ∷ ts) = Visit t ∷ visits ts

-- the task can be done: its nodes are there, also those that are done
abbrev pub IsReady : Graph → (done : ℕ) → Task → Type 0
IsReady g done (Visit n) = n.index < length g.nodes
IsReady g done (App h m) = (h.index < length g.nodes) × IsHead (node_at g.nodes h.index) × (0 < m) × (m ≤ done)
