-- What a list of tasks comes to.
use Rattle.std.specs.Prelude.{◌≡◌, ℕ, ◌+◌, ◌*◌, ◌<◌, List, [], ◌∷◌, ◌++◌, length, map, reverse}
use Rattle.level_terms.specs.declared.node.TermId.{TermId}
use Rattle.level_terms.specs.Graph.{Graph}
use Rattle.level_terms.specs.Growth.{Grows}
use Rattle.level_terms.specs.Reached.{tree, tree_size}
use Rattle.level_terms.specs.Sound.{IsSound}
use Rattle.level_terms.specs.Valid.{IsValid}
use Rattle.beta_fragment.specs.declared.renaming.Task.{Task}
use Rattle.beta_fragment.specs.declared.renaming.Task.TheVariants.{Visit, Lam, App}
use Rattle.level_terms.specs.Values.{Value, value_of, IsLamOf, IsAppOf}
use Rattle.beta_fragment.specs.Moves.{Plan, Does, IsLow, HasFew}

-- whatever values meet what the tasks ask for, newest task first, what is left at last is the node t, moved by the plan
abbrev pub Leads : Graph → Plan → (t base source : ℕ) → List Task → List Value → Type 0
Leads g plan t base source [] [] = ⊥
Leads g plan t base source [] (x ∷ []) = Does g plan t base source x
Leads g plan t base source [] (x ∷ y ∷ more) = ⊥
Leads g plan t base source (Visit n b ∷ k) xs = (s : ℕ) × IsValid g n.index s × IsLow plan b s × HasFew plan b × ((x : Value) → Does g plan n.index b s x → Leads g plan t base source k (xs ++ x ∷ []))
Leads g plan t base source (Lam d ∷ k) xs = (front : List Value) × (y : Value) × (xs ≡ front ++ y ∷ []) × ((x : Value) → IsLamOf d y x → Leads g plan t base source k (front ++ x ∷ []))
Leads g plan t base source (App m ∷ k) xs = (front : List Value) × (h : Value) × (args : List Value) × (xs ≡ front ++ h ∷ args) × (length args ≡ m) × ((x : Value) → IsAppOf h args x → Leads g plan t base source k (front ++ x ∷ []))

-- how much there is to do
abbrev pub task_size : Graph → Task → ℕ
task_size g (Visit n b) = 2 * tree_size (tree g n.index)
task_size g (Lam d) = 1
task_size g (App m) = 1

abbrev pub work_size : Graph → List Task → ℕ
work_size g [] = 0
work_size g (k ∷ more) = task_size g k + work_size g more

-- the heap, the tasks, oldest first, and the nodes that are done, oldest first
pub record State : Type 0 where
  pub heap : Graph
  pub work : List Task
  pub done : List TermId

-- in a heap g that the state's heap grew from, the tasks lead to the node t with its levels moved
abbrev pub IsLeading : Graph → Plan → (t base source : ℕ) → State → Type 0
IsLeading g plan t base source st = Leads g plan t base source (reverse st.work) (map (value_of st.heap) st.done)

-- a step keeps what the tasks lead to, and leaves less to do
pub record Steps (plan : Plan) (old new : State) : Type 0 where
  pub leads : (g : Graph) (t base source : ℕ) → IsSound g → Grows g old.heap [] [] → IsLeading g plan t base source old → IsLeading g plan t base source new
  pub falls : (g : Graph) (t base source : ℕ) → IsSound g → Grows g old.heap [] [] → IsLeading g plan t base source old → work_size g (reverse new.work) < work_size g (reverse old.work)

-- visits of nodes, in order
abbrev pub visits : ℕ → List TermId → List Task
visits base [] = []
visits base (t ∷ ts) = Visit t base ∷ visits base ts

-- the task can be done: its node is there, and so are the nodes that are done
abbrev pub IsReady : Plan → (nodes done : ℕ) → Task → Type 0
IsReady plan nodes done (Visit n b) = (n.index < nodes) × HasFew plan b
IsReady plan nodes done (Lam d) = 0 < done
IsReady plan nodes done (App m) = m < done
