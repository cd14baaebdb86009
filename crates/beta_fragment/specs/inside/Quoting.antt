-- Terms on their way to nodes.
use Rattle.std.specs.Prelude.{◌≡◌, ℕ, zero, suc, ◌+◌, ◌*◌, ◌<◌, true, false, List, [], ◌∷◌, ◌++◌, length, map, reverse, Option}
use Rattle.level_terms.specs.declared.node.TermId.{TermId}
use Rattle.level_terms.specs.Graph.{Graph}
use Rattle.level_terms.specs.Laws.{ArePlaces}
use Rattle.level_terms.specs.Reading.{enter}
use Rattle.ref_terms.specs.terms.Term as term
use Rattle.ref_terms.specs.terms.Term.{Term, Head, At}
use Rattle.ref_terms.specs.terms.Apply.{below, fill}
use Rattle.ref_terms.specs.terms.Occurs.{is_variable, occurs}
use Rattle.beta_fragment.specs.declared.quoting.Task.{Task}
use Rattle.beta_fragment.specs.declared.quoting.Task.TheVariants.{Visit, Lam, App}
use Rattle.beta_fragment.specs.Names.{names}
use Rattle.level_terms.specs.Values.{Value, value_of}
use Rattle.beta_fragment.specs.inside.Cells.{term_at}
use Rattle.beta_fragment.specs.Quoted.{AllIndicesBelow, AllNamesBelow, AllHeads, IsOpenHead, put_head, names_with}

-- what the levels stand for, under so many abstractions from a depth on
abbrev pub within : (depth under : ℕ) → ℕ → Term
within depth zero = names
within depth (suc k) = enter (depth + k) (within depth k)

-- the terms for heads, under so many abstractions
abbrev pub heads_below : (under : ℕ) → (Head → Term) → Head → Term
heads_below zero r = r
heads_below (suc k) r = below (heads_below k r)

-- each head stands for itself
abbrev pub KeepsHeads : (Head → Term) → Type 0
KeepsHeads r = (h : Head) → r h ≡ At h

-- what is known of a node is a term under so many abstractions, with terms in place of heads; where each head stands for
-- itself, no variable is reached that the term lacks
pub record Quotes (r : Head → Term) (depth under : ℕ) (t : Term) (x : Value) : Type 0 where
  pub reads : x.term (within depth under) ≡ fill (heads_below under r) t
  pub holds : x.holds (depth + under) ≡ true
  pub misses : KeepsHeads r → (v : ℕ) → occurs v t ≡ false → x.reached v ≡ false

-- a head that is no level and no index, wherever the levels stand for places
pub record IsHeadOf (h : Head) (x : Value) : Type 0 where
  pub term : (env : ℕ → Term) → ArePlaces env → x.term env ≡ At h
  pub holds : (e : ℕ) → x.holds e ≡ true
  pub misses : (v : ℕ) → is_variable v h ≡ false → x.reached v ≡ false

-- a term under so many abstractions
pub record Item : Type 0 where
  pub under : ℕ
  pub term : Term

abbrev pub item : ℕ → Term → Item
item k t = record { under = k; term = t }

-- what a walk over terms is given
pub record Setting : Type 0 where
  pub graph : Graph
  pub terms : List Term
  pub depth : ℕ
  pub put : Option TermId

abbrev pub set_for : Graph → List Term → ℕ → Option TermId → Setting
set_for g ts depth put = record { graph = g; terms = ts; depth = depth; put = put }

abbrev pub heads_of : Setting → Head → Term
heads_of s = put_head s.graph s.depth s.put

-- what is known of nodes is the terms, one for one
abbrev pub AllQuote : Setting → List Item → List Value → Type 0
AllQuote s [] [] = Unit {0}
AllQuote s (i ∷ more) (x ∷ xs) = Quotes (heads_of s) s.depth i.under i.term x × AllQuote s more xs
AllQuote s _ _ = ⊥

-- the term may stand under so many abstractions
pub record MayStand (s : Setting) (under : ℕ) (u : Term) : Type 0 where
  pub closed : AllIndicesBelow under u
  pub named : AllNamesBelow (names_with s.depth s.put) u
  pub heads : AllHeads (IsOpenHead s.graph) u

-- the term is there, and may stand under so many abstractions
pub record CanVisit (s : Setting) (t under : ℕ) : Type 0 where
  pub there : t < length s.terms
  pub stands : MayStand s under (term_at s.terms t)

-- an application to terms, as it stands
abbrev pub app_to : Term → List Term → Term
app_to f [] = f
app_to f (a ∷ xs) = app_to (term.App f a) xs

abbrev pub items_of : (under : ℕ) → List Term → List Item
items_of k xs = map (item k) xs

-- with these terms done, oldest first, the tasks, newest first, come to one term
abbrev pub Comes : Setting → List Task → List Item → Item → Type 0
Comes s [] [] u = ⊥
Comes s [] (x ∷ []) u = x ≡ u
Comes s [] (x ∷ y ∷ more) u = ⊥
Comes s (Visit t k ∷ more) st u = CanVisit s t k × Comes s more (st ++ item k (term_at s.terms t) ∷ []) u
Comes s (Lam k ∷ more) st u = (front : List Item) × (b : Term) × (st ≡ front ++ item (suc k) b ∷ []) × Comes s more (front ++ item k (term.Lam b) ∷ []) u
Comes s (App m ∷ more) st u = (front : List Item) × (k : ℕ) × (f : Term) × (xs : List Term) × (st ≡ front ++ item k f ∷ items_of k xs) × (length front ≡ m) × (0 < length xs) × Comes s more (front ++ item k (app_to f xs) ∷ []) u

-- the tasks, oldest first, come to one term from the nodes that are done, oldest first
pub record IsQuoting (s : Setting) (u : Item) (h : Graph) (work : List Task) (done : List TermId) : Type 0 where
  pub stack : List Item
  pub comes : Comes s (reverse work) stack u
  pub known : AllQuote s stack (map (value_of h) done)

-- how much there is to do
abbrev pub term_size : Term → ℕ
term_size (term.Lam b) = 1 + term_size b
term_size (At h) = 1
term_size (term.App f a) = 1 + term_size f + term_size a

abbrev pub task_size : List Term → Task → ℕ
task_size ts (Visit t k) = 2 * term_size (term_at ts t)
task_size ts (Lam k) = 1
task_size ts (App m) = 1

abbrev pub tasks_size : List Term → List Task → ℕ
tasks_size ts [] = 0
tasks_size ts (k ∷ more) = task_size ts k + tasks_size ts more

-- visits of terms, in order
abbrev pub visits_of : (under : ℕ) → List ℕ → List Task
visits_of k [] = []
visits_of k (t ∷ more) = Visit t k ∷ visits_of k more

-- the terms are there
abbrev pub AllThere : List Term → List ℕ → Type 0
AllThere ts [] = Unit {0}
AllThere ts (t ∷ more) = (t < length ts) × AllThere ts more

-- a term is an application of a head to terms, which are visited after the tasks that were there
pub record Unwinds (ts : List Term) (t head under m : ℕ) (old new : List Task) : Type 0 where
  pub args : List ℕ
  pub there : head < length ts
  pub some : 0 < length args
  pub all : AllThere ts args
  pub spine : term_at ts t ≡ app_to (term_at ts head) (map (term_at ts) args)
  pub pushed : new ≡ old ++ App m ∷ reverse (visits_of under args)

-- the task can be done
abbrev pub IsReady : Setting → (done : ℕ) → Task → Type 0
IsReady s done (Visit t k) = CanVisit s t k
IsReady s done (Lam k) = 0 < done
IsReady s done (App m) = suc m < done
