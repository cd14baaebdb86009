-- What unification of two nodes answers.
use Rattle.std.specs.Prelude.{◌≡◌, ℕ, ◌<◌, Bool, [], ◌∷◌, length}
use Rattle.level_terms.specs.Graph.{Graph}
use Rattle.level_terms.specs.Reading.{read}
use Rattle.ref_terms.specs.terms.Term.{Term}
use Rattle.ref_terms.specs.unification.Problem.{Problem, Solved, Clashed, Faulted, UnifyFault}
use Rattle.ref_terms.specs.unification.Unification.{unify}
use Rattle.ref_terms.specs.search.Branch.{bound}
use Rattle.ref_terms.specs.search.Fault.{of_unification}
use Rattle.beta_fragment.specs.declared.answer.UnifyStop.{UnifyStop}
use Rattle.beta_fragment.specs.declared.answer.UnifyStop.TheVariants.{Fault, Memory}
use Rattle.beta_fragment.specs.Names.{names}

-- the equation of two nodes in a heap: the next variable is the heap's
abbrev pub problem_of : Graph → (s t depth : ℕ) → Problem
problem_of g s t depth = record { next_var = length g.depths; equations = record { names = depth; left = read g s names; right = read g t names } ∷ []; bindings = [] }

-- what each node of the old heap means is what it meant, under the bindings; the variables are those that the rules make
pub record ReadsUnder (old new : Graph) (p : Problem) : Type 0 where
  pub readings : (t : ℕ) (env : ℕ → Term) → t < length old.nodes → read new t env ≡ bound p.bindings (read old t env)
  pub variables : length new.depths ≡ p.next_var

-- the rules solve the problem, and the heap has their bindings
abbrev pub AnswersTrue : (mark : ℕ) → (old new : Graph) → Problem → Type 0
AnswersTrue m old new p = (q : Problem) × (unify m p ≡ Solved q) × ReadsUnder old new q

-- they come to a clash
abbrev pub AnswersFalse : (mark : ℕ) → Problem → Type 0
AnswersFalse m p = (knot : Bool) × (unify m p ≡ Clashed knot)

-- they come to this fault; want of memory may come at any time
abbrev pub StopsSo : (mark : ℕ) → Problem → UnifyStop → Type 0
StopsSo m p (Fault f) = (u : UnifyFault) × (f ≡ of_unification u) × (unify m p ≡ Faulted u)
StopsSo m p Memory = Unit {0}
