-- What is still to be written of a type.
use Rattle.std.specs.Prelude.{◌≡◌, ℕ, ◌+◌, ◌<◌, Bool, not, ◌&&◌, if◌then◌else◌, codes, List, [], ◌∷◌, ◌++◌, reverse, flat_map, All}
use Rattle.lp_resolve.specs.Symbols.{Begins}
use Rattle.type_texts.specs.declared.tasks.Task.{Task}
use Rattle.type_texts.specs.declared.tasks.Task.TheVariants.{Node as NodeTask, Space, Opening, Closing, Arrow}
use Rattle.type_texts.specs.OpenTypes.{OpenType, open_variable, open_word, open_applied}
use Rattle.type_texts.specs.TypeText.{variables_in, noted_all, is_arrow_word, is_left_of_arrow, is_arrow, is_applied, type_text}

-- a node's type, in brackets or not
abbrev pub bracketed_task : Bool → ℕ → List Task
bracketed_task brackets k = if brackets then Opening ∷ NodeTask k ∷ Closing ∷ [] else NodeTask k ∷ []

-- what is written of the type at one node applied to that at another
abbrev pub applied_tasks : (u : ℕ → OpenType) → ℕ → ℕ → List Task
applied_tasks u l r =
    if is_arrow_word (u l) then bracketed_task (is_arrow (u r)) r ++ Arrow ∷ []
    else NodeTask l ∷ Space ∷ bracketed_task (not (is_left_of_arrow (u l)) && is_applied (u r)) r

-- the text of a task
abbrev pub task_text : (table : List (List ℕ)) (u : ℕ → OpenType) (variables : List ℕ) → Task → List ℕ
task_text table u variables (NodeTask k) = type_text table variables (u k)
task_text table u variables Space = codes " "
task_text table u variables Opening = codes "("
task_text table u variables Closing = codes ")"
task_text table u variables Arrow = codes " ->"

-- its variables
abbrev pub task_variables : (u : ℕ → OpenType) → Task → List ℕ
task_variables u (NodeTask k) = variables_in (u k)
task_variables u Space = []
task_variables u Opening = []
task_variables u Closing = []
task_variables u Arrow = []

-- more than the tasks that come of a type
abbrev pub weight : OpenType → ℕ
weight (open_variable x) = 1
weight (open_word w) = 1
weight (open_applied f a) = 5 + (weight f + weight a)

abbrev pub task_weight : (u : ℕ → OpenType) → Task → ℕ
task_weight u (NodeTask k) = weight (u k)
task_weight u Space = 1
task_weight u Opening = 1
task_weight u Closing = 1
task_weight u Arrow = 1

abbrev pub total_weight : (u : ℕ → OpenType) → List Task → ℕ
total_weight u [] = 0
total_weight u (t ∷ ts) = task_weight u t + total_weight u ts

-- of several tasks, the last one first
abbrev pub tasks_text : (table : List (List ℕ)) (u : ℕ → OpenType) (variables : List ℕ) → List Task → List ℕ
tasks_text table u variables tasks = flat_map (task_text table u variables) (reverse tasks)

abbrev pub tasks_variables : (u : ℕ → OpenType) → List Task → List ℕ
tasks_variables u tasks = flat_map (task_variables u) (reverse tasks)

abbrev pub tasks_weight : (u : ℕ → OpenType) → List Task → ℕ
tasks_weight u tasks = total_weight u (reverse tasks)

-- the node of a task is there
abbrev pub IsTaskWithin : ℕ → Task → Type 0
IsTaskWithin n (NodeTask k) = k < n
IsTaskWithin n Space = Unit {0}
IsTaskWithin n Opening = Unit {0}
IsTaskWithin n Closing = Unit {0}
IsTaskWithin n Arrow = Unit {0}

abbrev pub AreWithin : ℕ → List Task → Type 0
AreWithin n tasks = All (IsTaskWithin n) tasks

-- What is written and what is still to be written stays one text, over each list that begins with the variables that are
-- numbered so far; and so do these variables with those that are still to be written.
pub record Writes (table : List (List ℕ)) (u : ℕ → OpenType) (variables text : List ℕ) (todo : List Task) (variables' text' : List ℕ) (todo' : List Task) : Type 0 where
  pub grows : Begins variables variables'
  pub numbers : noted_all variables' (flat_map (task_variables u) todo') ≡ noted_all variables (flat_map (task_variables u) todo)
  pub texts : (all : List ℕ) → Begins variables' all
      → text' ++ flat_map (task_text table u all) todo' ≡ text ++ flat_map (task_text table u all) todo
