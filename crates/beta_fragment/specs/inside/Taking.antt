-- A term with others in the place of its indices, where each has one.
use Rattle.std.specs.Prelude.{◌≡◌, ℕ, zero, suc, ◌+◌, ◌*◌, ◌<◌, Bool, true, false, List, [], ◌∷◌, length, map, Option, Some, None, option_map, MatchOption}
use Rattle.ref_terms.specs.terms.Term as term
use Rattle.ref_terms.specs.terms.Term.{Term}
use Rattle.ref_terms.specs.terms.Index.{shift, ren}
use Rattle.ref_terms.specs.terms.Eta.{both}
use Rattle.beta_fragment.specs.declared.cells.Cell.{Cell}
use Rattle.beta_fragment.specs.declared.cells.Cell.TheVariants.{Bound}
use Rattle.beta_fragment.specs.declared.taking.Replacement.{Replacement}
use Rattle.beta_fragment.specs.declared.taking.Replacement.TheVariants.{Part, Missing, Raised}
use Rattle.beta_fragment.specs.declared.taking.Instead.{Instead}
use Rattle.beta_fragment.specs.declared.taking.Instead.TheVariants.{Index, Other, Nothing}
use Rattle.beta_fragment.specs.declared.taking.Task.{Task}
use Rattle.beta_fragment.specs.declared.taking.Task.TheVariants.{Visit, Lam, App}
use Rattle.beta_fragment.specs.inside.Cells.{term_at, Gains}

-- terms for indices, where there are any, under one more abstraction
abbrev pub under_some : (ℕ → Option Term) → ℕ → Option Term
under_some s zero = Some (term.At (term.Bound zero))
under_some s (suc n) = option_map shift (s n)

-- the term for a head
abbrev pub replaced_head : (ℕ → Option Term) → term.Head → Option Term
replaced_head s (term.Con c) = Some (term.At (term.Con c))
replaced_head s (term.Int n) = Some (term.At (term.Int n))
replaced_head s (term.Str c) = Some (term.At (term.Str c))
replaced_head s (term.Name n) = Some (term.At (term.Name n))
replaced_head s (term.Bound i) = s i
replaced_head s (term.Var v) = Some (term.At (term.Var v))

-- terms in the place of the free indices, where each of them has one
abbrev pub replaced : (ℕ → Option Term) → Term → Option Term
replaced s (term.Lam b) = option_map term.Lam (replaced (under_some s) b)
replaced s (term.At h) = replaced_head s h
replaced s (term.App f a) = both (replaced s f) (replaced s a)

-- the terms for indices: one for index 0, where the others are one lower; none for index 0; and indices that are so many higher
abbrev pub with_first : Term → ℕ → Option Term
with_first x zero = Some x
with_first x (suc n) = Some (term.At (term.Bound n))

abbrev pub without_first : ℕ → Option Term
without_first zero = None
without_first (suc n) = Some (term.At (term.Bound n))

abbrev pub raised_by : ℕ → ℕ → Option Term
raised_by j n = Some (term.At (term.Bound (n + j)))

abbrev pub outside : List Term → Replacement → ℕ → Option Term
outside ts (Part p) = with_first (term_at ts p)
outside ts Missing = without_first
outside ts (Raised j) = raised_by j

-- the terms for indices, under so many abstractions
abbrev pub images : List Term → Replacement → ℕ → ℕ → Option Term
images ts put zero = outside ts put
images ts put (suc k) = under_some (images ts put k)

-- a term whose free indices are so many higher
abbrev pub raised : ℕ → Term → Term
raised k t = ren (λ n. n + k) t

-- what is in the place of an index, where terms are there
abbrev pub IsImage : List Term → Replacement → Option Term → Instead → Type 0
IsImage ts put o (Index j) = o ≡ Some (term.At (term.Bound j))
IsImage ts put o (Other p k) = (put ≡ Part p) × (o ≡ Some (raised k (term_at ts p)))
IsImage ts put o Nothing = o ≡ None

-- the term that is put in the place of index 0 is there
abbrev pub PartThere : ℕ → Replacement → Type 0
PartThere n (Part p) = p < n
PartThere n _ = Unit {0}

-- a head without arguments
abbrev pub IsHeadTerm : Term → Type 0
IsHeadTerm (term.At h) = Unit {0}
IsHeadTerm _ = ⊥

-- terms that are there
abbrev pub AllThere : ℕ → List ℕ → Type 0
AllThere n [] = Unit {0}
AllThere n (i ∷ is) = (i < n) × AllThere n is

-- the tasks, newest first, come to the term o, if there is one, from the terms on the stack
abbrev pub Comes : List Term → List Task → List Term → Option Term → Type 0
Comes ts [] [] o = ⊥
Comes ts [] (x ∷ []) o = o ≡ Some x
Comes ts [] (x ∷ y ∷ more) o = ⊥
Comes ts (Visit put t k ∷ work) stack o = (t < length ts) × PartThere (length ts) put × MatchOption (replaced (images ts put k) (term_at ts t)) (o ≡ None) (λ v. Comes ts work (v ∷ stack) o)
Comes ts (Lam ∷ work) [] o = ⊥
Comes ts (Lam ∷ work) (b ∷ stack) o = Comes ts work (term.Lam b ∷ stack) o
Comes ts (App ∷ work) [] o = ⊥
Comes ts (App ∷ work) (a ∷ []) o = ⊥
Comes ts (App ∷ work) (a ∷ f ∷ stack) o = Comes ts work (term.App f a ∷ stack) o

-- how big a term is, where each head costs so much
abbrev pub weight : ℕ → Term → ℕ
weight c (term.Lam b) = suc (weight c b)
weight c (term.At h) = c
weight c (term.App f a) = suc (weight c f + weight c a)

-- what a head costs: a term that takes its place is walked through
abbrev pub cost : List Term → Replacement → ℕ
cost ts (Part p) = suc (weight 1 (term_at ts p))
cost ts _ = 1

-- how much there is to do
abbrev pub task_size : List Term → Task → ℕ
task_size ts (Visit put t k) = 2 * weight (cost ts put) (term_at ts t)
task_size ts Lam = 1
task_size ts App = 1

abbrev pub work_size : List Term → List Task → ℕ
work_size ts [] = 0
work_size ts (task ∷ work) = task_size ts task + work_size ts work

-- the terms, the tasks and the numbers of what is done, all newest first
pub record State : Type 0 where
  pub terms : List Term
  pub work : List Task
  pub done : List ℕ

abbrev pub IsComing : List Term → Option Term → State → Type 0
IsComing ts o st = Comes ts st.work (map (term_at st.terms) st.done) o

-- the walk goes on, or there is no term
abbrev pub Goes : Bool → List Term → Option Term → State → Type 0
Goes true ts o st = IsComing ts o st
Goes false ts o st = o ≡ None

-- a step keeps what the tasks come to, and leaves less to do
pub record Steps (more : Bool) (old new : State) : Type 0 where
  pub comes : (ts : List Term) (o : Option Term) → Gains ts old.terms → IsComing ts o old → Goes more ts o new
  pub falls : (ts : List Term) (o : Option Term) → Gains ts old.terms → IsComing ts o old → work_size ts new.work < work_size ts old.work

-- the task can be done, with so many terms, and so many done
abbrev pub IsReady : ℕ → ℕ → Task → Type 0
IsReady terms done (Visit put t k) = (t < terms) × PartThere terms put
IsReady terms done Lam = 0 < done
IsReady terms done App = 1 < done

-- the cell is of index 0, or isn't
abbrev pub IsFirstIndex : Bool → Cell → Type 0
IsFirstIndex true (Bound zero) = Unit {0}
IsFirstIndex true _ = ⊥
IsFirstIndex false (Bound zero) = ⊥
IsFirstIndex false _ = Unit {0}
