-- What the arguments of a clause's head come to against those of an atom.
use Rattle.std.specs.Prelude.{◌≡◌, ℕ, ◌<◌, Bool, true, false, List, length}
use Rattle.level_terms.specs.declared.node.TermId.{TermId}
use Rattle.level_terms.specs.Graph.{Graph}
use Rattle.level_terms.specs.Reading.{read}
use Rattle.beta_fragment.specs.HeadForm.{all_read}
use Rattle.beta_fragment.specs.declared.answer.UnifyStop.{UnifyStop}
use Rattle.beta_fragment.specs.declared.answer.UnifyStop.TheVariants.{Fault, Memory}
use Rattle.ref_terms.specs.terms.Term.{Term}
use Rattle.ref_terms.specs.unification.Problem.{Binding}
use Rattle.ref_terms.specs.unification.Unification.{unify}
use Rattle.ref_terms.specs.search.Branch.{Branch, bound, bound_branch}
use Rattle.ref_terms.specs.search.Resolve.{Tried, Fits, Clashes, Breaks, equations_at, matched}
use Rattle.search_moves.specs.Instances.{HaveBuiltValues}
use Rattle.search_moves.specs.Solving.{problem_of_all}

-- what the reference makes of a branch: the inputs are matched, and then the outputs are unified
abbrev pub tried_at : Graph → (mark depth : ℕ) → List Bool → (heads args : List TermId) → Branch → Tried
tried_at g mark depth ms hs ts b = matched unify b (equations_at false depth ms (all_read g hs) (all_read g ts)) (unify mark (problem_of_all g true depth ms hs ts))

-- they fit: each branch goes on under some bindings, and so does each node of the heap
pub record HeadFits (mark depth : ℕ) (ms : List Bool) (hs ts : List TermId) (old new : Graph) : Type 0 where
  pub made : List Binding
  pub built : HaveBuiltValues made
  pub fits : (b : Branch) → tried_at old mark depth ms hs ts b ≡ Fits (bound_branch made (length new.depths) b)
  pub readings : (t : ℕ) (env : ℕ → Term) → t < length old.nodes → read new t env ≡ bound made (read old t env)

-- they clash
abbrev pub HeadClashes : (mark depth : ℕ) → List Bool → (heads args : List TermId) → Graph → Type 0
HeadClashes mark depth ms hs ts g = (b : Branch) → tried_at g mark depth ms hs ts b ≡ Clashes

-- they come to this fault; want of memory may come at any time
abbrev pub HeadStops : (mark depth : ℕ) → List Bool → (heads args : List TermId) → Graph → UnifyStop → Type 0
HeadStops mark depth ms hs ts g (Fault e) = (b : Branch) → tried_at g mark depth ms hs ts b ≡ Breaks e
HeadStops mark depth ms hs ts g Memory = Unit {0}
