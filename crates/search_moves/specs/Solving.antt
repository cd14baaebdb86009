-- The equations of a head's arguments with those of an atom.
use Rattle.std.specs.Prelude.{◌≡◌, ℕ, ◌<◌, ◌≤◌, Bool, List, [], map, length, drop}
use Rattle.level_terms.specs.declared.node.TermId.{TermId}
use Rattle.level_terms.specs.Graph.{Graph}
use Rattle.level_terms.specs.Reading.{read}
use Rattle.beta_fragment.specs.HeadForm.{all_read, AllValidAt}
use Rattle.ref_terms.specs.terms.Term.{Term}
use Rattle.ref_terms.specs.unification.Problem.{Problem, Binding}
use Rattle.ref_terms.specs.unification.Unification.{unify}
use Rattle.ref_terms.specs.search.Branch.{bound, bound_equation}
use Rattle.ref_terms.specs.search.Resolve.{equations_at}
use Rattle.search_moves.specs.World.{World}
use Rattle.search_moves.specs.Moves.{Growing, LeavesRest}

-- the equations of the arguments with this mode, the clause's argument on the left
abbrev pub problem_of_all : Graph → (mode : Bool) → (depth : ℕ) → List Bool → (heads args : List TermId) → Problem
problem_of_all g mode depth ms hs ts = record { next_var = length g.depths; equations = equations_at mode depth ms (all_read g hs) (all_read g ts); bindings = [] }

-- the arguments from place i on are left, under the bindings so far, which the heap has
pub record IsSolving (mark : ℕ) (mode : Bool) (depth : ℕ) (ms : List Bool) (hs ts : List TermId) (old new : Graph) (i : ℕ) : Type 0 where
  pub made : List Binding
  pub readings : (t : ℕ) (env : ℕ → Term) → t < length old.nodes → read new t env ≡ bound made (read old t env)
  pub answer : unify mark (problem_of_all old mode depth ms hs ts)
      ≡ unify mark (record { next_var = length new.depths; equations = map (bound_equation made) (equations_at mode depth (drop i ms) (all_read old (drop i hs)) (all_read old (drop i ts))); bindings = made })
  pub grows : Growing old new

-- the loop over the arguments is at place i
pub record IsUnderway (mark : ℕ) (mode : Bool) (depth : ℕ) (ms : List Bool) (hs ts : List TermId) (w w' : World) (i : ℕ) : Type 0 where
  pub heads : AllValidAt w'.heap hs depth
  pub args : AllValidAt w'.heap ts depth
  pub first : mark ≤ length w'.heap.depths
  pub solving : IsSolving mark mode depth ms hs ts w.heap w'.heap i
  pub rest : LeavesRest w w'
