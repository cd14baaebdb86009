-- What a built-in comes to, by what its arguments read as.
use Rattle.std.specs.Prelude.{◌≡◌, ℕ, ◌<◌, Bool, true, false, ℤ, List, [], ◌∷◌, ◌++◌, Option, Some, length}
use Rattle.level_terms.specs.Graph.{Graph}
use Rattle.level_terms.specs.Growth.{Grows}
use Rattle.level_terms.specs.Reading.{read}
use Rattle.ref_terms.specs.terms.Term.{Term, At, Int}
use Rattle.ref_terms.specs.unification.Problem.{Problem}
use Rattle.ref_terms.specs.search.Fault.{Judged, Good, Bad}
use Rattle.ref_terms.specs.declared.fault.Fault.{Fault as FaultOf}
use Rattle.ref_terms.specs.declared.fault.Fault.TheVariants.{Arity}
use Rattle.ref_terms.specs.search.Value.{term_eq, is_flex, is_bare_name}
use Rattle.ref_terms.specs.search.Arithmetic.{less, value_of}
use Rattle.ref_terms.specs.search.BranchMove.{applied_whole}
use Rattle.ref_terms.specs.texts.Text.{term_parts, top}
use Rattle.ref_terms.specs.texts.Numbering.{text_of}
use Rattle.beta_fragment.specs.declared.answer.UnifyStop.{UnifyStop}
use Rattle.beta_fragment.specs.declared.answer.UnifyStop.TheVariants.{Fault, Memory}
use Rattle.goal_form.specs.declared.builtin.Builtin.{Builtin}
use Rattle.goal_form.specs.declared.builtin.Builtin.TheVariants.{Equal, Same, Var, Name, Is, Less, Print, Beta}
use Rattle.pattern_unify.specs.Answers.{AnswersTrue, AnswersFalse, StopsSo}

-- terms that are unified, the first as the left side; a truth; a term that is printed; or a fault
pub data Outcome : Type 0 where
  Equates : Term → Term → Outcome
  Tells : Bool → Outcome
  Prints : Term → Outcome
  Breaks : FaultOf → Outcome

-- a term is unified with the value of an expression
abbrev pub evaluated : Term → Judged ℤ → Outcome
evaluated x (Good z) = Equates x (At (Int z))
evaluated x (Bad e) = Breaks e

-- a question that may be a fault
abbrev pub told : Judged Bool → Outcome
told (Good c) = Tells c
told (Bad e) = Breaks e

-- what a built-in comes to on these arguments
abbrev pub outcome : Builtin → List Term → Outcome
outcome Equal (s ∷ t ∷ []) = Equates s t
outcome Same (s ∷ t ∷ []) = Tells (term_eq s t)
outcome Var (t ∷ []) = Tells (is_flex t)
outcome Name (t ∷ []) = Tells (is_bare_name t)
outcome Is (x ∷ e ∷ []) = evaluated x (value_of e)
outcome Less (s ∷ t ∷ []) = told (less s t)
outcome Print (t ∷ []) = Prints t
outcome Beta (f ∷ a ∷ r ∷ []) = Equates (applied_whole f a) r
outcome _ ts = Breaks Arity

-- the line of a term
abbrev pub line_of : List (List ℕ) → Term → List ℕ
line_of table t = text_of (term_parts table t top 0) ++ 10 ∷ []

-- what stands printed afterwards
abbrev pub printed_after : List (List ℕ) → Outcome → Option (List ℕ) → Option (List ℕ)
printed_after table (Prints t) before = Some (line_of table t)
printed_after table (Equates s t) before = before
printed_after table (Tells c) before = before
printed_after table (Breaks e) before = before

-- one equation of two terms under so many names, where the next variable is the heap's
abbrev pub equation_in : Graph → (depth : ℕ) → Term → Term → Problem
equation_in g depth s t = record { next_var = length g.depths; equations = record { names = depth; left = s; right = t } ∷ []; bindings = [] }

-- nodes are added alone: each node means what it meant, and there is no new variable
pub record Stays (old new : Graph) : Type 0 where
  pub readings : (t : ℕ) (env : ℕ → Term) → t < length old.nodes → read new t env ≡ read old t env
  pub variables : new.depths ≡ old.depths
  pub grows : Grows old new [] []

-- it succeeds, and the heap has the bindings
abbrev pub Succeeds : (old new : Graph) → (depth : ℕ) → Outcome → Type 0
Succeeds old new depth (Equates s t) = AnswersTrue 0 old new (equation_in old depth s t)
Succeeds old new depth (Tells c) = (c ≡ true) × Stays old new
Succeeds old new depth (Prints t) = Stays old new
Succeeds old new depth (Breaks e) = ⊥

-- it fails
abbrev pub Fails : (old : Graph) → (depth : ℕ) → Outcome → Type 0
Fails old depth (Equates s t) = AnswersFalse 0 (equation_in old depth s t)
Fails old depth (Tells c) = c ≡ false
Fails old depth (Prints t) = ⊥
Fails old depth (Breaks e) = ⊥

-- it comes to this fault; want of memory may come at any time
abbrev pub Stops : (old : Graph) → (depth : ℕ) → Outcome → UnifyStop → Type 0
Stops old depth (Equates s t) stop = StopsSo 0 (equation_in old depth s t) stop
Stops old depth (Tells c) stop = stop ≡ Memory
Stops old depth (Prints t) stop = stop ≡ Memory
Stops old depth (Breaks e) (Fault f) = f ≡ e
Stops old depth (Breaks e) Memory = Unit {0}

-- a value has this fault; want of memory may come at any time
abbrev pub StopsBy : {A : Type 0} → Judged A → UnifyStop → Type 0
StopsBy j (Fault f) = j ≡ Bad f
StopsBy j Memory = Unit {0}
