-- Instances of clauses in a heap: the head is made first, and the body after the head was unified.
use Rattle.std.specs.Prelude.{◌≡◌, ℕ, ◌+◌, ◌<◌, List, [], ◌∷◌, length, map, get_or, Option, option_to_list}
use Rattle.level_terms.specs.declared.node.TermId.{TermId}
use Rattle.level_terms.specs.Graph.{Graph}
use Rattle.level_terms.specs.Reading.{read}
use Rattle.beta_fragment.specs.HeadForm.{all_read, AllValidAt}
use Rattle.beta_fragment.specs.Names.{names}
use Rattle.ref_terms.specs.terms.Built.{IsBuilt}
use Rattle.ref_terms.specs.unification.Spine.{args_of}
use Rattle.ref_terms.specs.unification.Problem.{Binding}
use Rattle.ref_terms.specs.search.Program.{Clause}
use Rattle.ref_terms.specs.search.Instance.{ClauseInstance, clause_instance, variable_under}
use Rattle.ref_terms.specs.search.Branch.{bound}
use Rattle.search_moves.specs.declared.clauses.Instance.{Instance}

-- the head of an instance in the heap: these nodes are its arguments, and the instance's variables are the newest ones
pub record IsHeadMade (instance : ClauseInstance) (depth : ℕ) (new : Graph) (hs : List TermId) : Type 0 where
  pub heads : all_read new hs ≡ args_of instance.head
  pub variables : length new.depths ≡ instance.next_var
  pub heads_valid : AllValidAt new hs depth

-- an instance of an assumption in the heap: these nodes are its head's arguments and its conditions
pub record IsMadeOf (instance : ClauseInstance) (depth : ℕ) (new : Graph) (hs ts : List TermId) : Type 0 where
  pub head : IsHeadMade instance depth new hs
  pub body : all_read new ts ≡ instance.body
  pub body_valid : AllValidAt new ts depth

-- nodes that read as variables under bindings: these were made at a depth, and are numbered from `next` on
abbrev pub ReadAsVariables : Graph → List Binding → (depth next : ℕ) → List TermId → Type 0
ReadAsVariables g bs depth next variables = (v : ℕ) → v < length variables → read g (get_or variables v (record { index = 0 })).index names ≡ bound bs (variable_under depth (next + v))

-- the head of a clause in the heap, at so many names, over new variables, each of which has a node
pub record IsInstanceOf (k : Clause) (depth : ℕ) (old new : Graph) (made : Instance) : Type 0 where
  pub head : IsHeadMade (clause_instance k depth (length old.depths)) depth new made.heads.items
  pub count : length made.variables.items ≡ k.variables
  pub reads : ReadAsVariables new [] depth (length old.depths) made.variables.items
  pub valid : AllValidAt new made.variables.items depth

-- the values of bindings are built
abbrev pub HaveBuiltValues : List Binding → Type 0
HaveBuiltValues [] = Unit {0}
HaveBuiltValues (b ∷ older) = IsBuilt b.value × HaveBuiltValues older

-- the body of a clause over these nodes for its variables:
-- where they read as an instance's variables under bindings, it reads as the instance's body under them
abbrev pub IsBodyOver : Clause → (depth : ℕ) → (variables : List TermId) → (old new : Graph) → Option TermId → Type 0
IsBodyOver k depth variables old new body =
    (bs : List Binding) (next : ℕ) → HaveBuiltValues bs → ReadAsVariables old bs depth next variables → all_read new (option_to_list body) ≡ map (bound bs) (clause_instance k depth next).body
