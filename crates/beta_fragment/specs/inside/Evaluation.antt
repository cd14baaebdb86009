-- What a list of tasks comes to that evaluates a node.
use Rattle.std.specs.Prelude.{◌≡◌, ◌≢◌, ℕ, ◌+◌, ◌-◌, ◌*◌, ◌<◌, ◌≤◌, List, [], ◌∷◌, length, map, reverse, take, Option, Some, None}
use Rattle.std.specs.List.{slice_index_or, slice_set}
use Rattle.level_terms.specs.declared.node.TermId.{TermId}
use Rattle.level_terms.specs.Graph.{Graph}
use Rattle.level_terms.specs.Reached.{tree, tree_size}
use Rattle.level_terms.specs.Reading.{read}
use Rattle.level_terms.specs.Valid.{IsValid}
use Rattle.ref_terms.specs.terms.Term as term
use Rattle.ref_terms.specs.terms.Term.{Term, At}
use Rattle.ref_terms.specs.terms.Apply.{apply}
use Rattle.ref_terms.specs.terms.Eta.{lam}
use Rattle.beta_fragment.specs.inside.Cells.{term_at}
use Rattle.beta_fragment.specs.Quoted.{AllHeads, IsOpenHead}
use Rattle.beta_fragment.specs.declared.evaluating.Entry.{Entry}
use Rattle.beta_fragment.specs.declared.evaluating.Entry.TheVariants.{Named, Placed}
use Rattle.beta_fragment.specs.declared.evaluating.Task.{Task}
use Rattle.beta_fragment.specs.declared.evaluating.Task.TheVariants.{Visit, Lam, App}

-- what an entry stands for under so many abstractions
abbrev pub entry_term : (under : ℕ) → Entry → Term
entry_term under (Named n) = At (term.Name n)
entry_term under (Placed p) = At (term.Bound (under - 1 - p))

-- the entry of a level
abbrev pub entry_at : List Entry → ℕ → Entry
entry_at es i = slice_index_or es i (Named 0)

-- what the levels stand for
abbrev pub entries_env : List Entry → (under : ℕ) → ℕ → Term
entries_env es under i = entry_term under (entry_at es i)

-- an abstraction stands around the place
abbrev pub IsPlaced : (under : ℕ) → Entry → Type 0
IsPlaced under (Named n) = Unit {0}
IsPlaced under (Placed p) = p < under

abbrev pub AllPlaced : List Entry → (under : ℕ) → Type 0
AllPlaced es under = (i : ℕ) → IsPlaced under (entry_at es i)

-- what the levels stood for before the abstraction that was made at a level was entered
abbrev pub entries_before : List Entry → (made : ℕ) → Option Entry → List Entry
entries_before es made None = take made es
entries_before es made (Some e) = slice_set es made e

-- an abstraction was entered that was made at a level
pub record IsEntered (es entered : List Entry) (made under : ℕ) (before : Option Entry) : Type 0 where
  pub within : made < length entered
  pub longer : length es ≤ length entered
  pub back : entries_before entered made before ≡ es
  pub own : entry_at entered made ≡ Placed under
  pub others : (i : ℕ) → made ≢ i → entry_at entered i ≡ entry_at es i

-- the node can be read by the entries
pub record CanVisit (g : Graph) (t : ℕ) (es : List Entry) (under : ℕ) : Type 0 where
  pub depth : ℕ
  pub valid : IsValid g t depth
  pub within : depth ≤ length es
  pub placed : AllPlaced es under

-- the tasks, newest first, come to a term with the terms that are done, newest first
abbrev pub Comes : Graph → List Task → List Entry → (under : ℕ) → List Term → Term → Type 0
Comes g [] es under [] u = ⊥
Comes g [] es under (x ∷ []) u = x ≡ u
Comes g [] es under (x ∷ y ∷ more) u = ⊥
Comes g (Visit n ∷ k) es under xs u = CanVisit g n.index es under × Comes g k es under (read g n.index (entries_env es under) ∷ xs) u
Comes g (Lam made before ∷ k) es under [] u = ⊥
Comes g (Lam made before ∷ k) es under (x ∷ xs) u = (made < length es) × (0 < under) × Comes g k (entries_before es made before) (under - 1) (lam x ∷ xs) u
Comes g (App ∷ k) es under [] u = ⊥
Comes g (App ∷ k) es under (a ∷ []) u = ⊥
Comes g (App ∷ k) es under (a ∷ f ∷ xs) u = Comes g k es under (apply f a ∷ xs) u

-- how much there is to do
abbrev pub task_size : Graph → Task → ℕ
task_size g (Visit n) = 2 * tree_size (tree g n.index)
task_size g (Lam made before) = 1
task_size g App = 1

abbrev pub work_size : Graph → List Task → ℕ
work_size g [] = 0
work_size g (k ∷ more) = task_size g k + work_size g more

-- the tasks, oldest first, the entries, how many abstractions stand around, and the terms that are done, newest first
pub record State : Type 0 where
  pub work : List Task
  pub entries : List Entry
  pub under : ℕ
  pub terms : List Term

abbrev pub IsComing : Graph → State → Term → Type 0
IsComing g st u = Comes g (reverse st.work) st.entries st.under st.terms u

-- a step keeps what the tasks come to, and leaves less to do
pub record Steps (g : Graph) (old new : State) : Type 0 where
  pub comes : (u : Term) → IsComing g old u → IsComing g new u
  pub falls : work_size g (reverse new.work) < work_size g (reverse old.work)

-- the terms with numbers, which are oldest first
abbrev pub done_terms : List Term → List ℕ → List Term
done_terms ts done = map (term_at ts) (reverse done)

-- the terms are there, and their variables have no value
abbrev pub AreDone : Graph → List Term → List ℕ → Type 0
AreDone g ts [] = Unit {0}
AreDone g ts (i ∷ is) = (i < length ts) × AllHeads (IsOpenHead g) (term_at ts i) × AreDone g ts is

-- the task can be done
abbrev pub IsReady : Graph → List Entry → (under done : ℕ) → Task → Type 0
IsReady g es under done (Visit n) = CanVisit g n.index es under
IsReady g es under done (Lam made before) = (made < length es) × (0 < under) × (0 < done)
IsReady g es under done App = 1 < done

-- applications to nodes, one after the other
abbrev pub arg_tasks : List TermId → List Task
arg_tasks [] = []
arg_tasks (t ∷ ts) = Visit t ∷ App ∷ arg_tasks ts
