-- The events of a query.
use Rattle.std.specs.Prelude.{ℕ, zero, suc, List, [], ◌∷◌, map, length}
use Rattle.ref_terms.specs.terms.Term.{At, Var}
use Rattle.ref_terms.specs.unification.Closing.{names_below}
use Rattle.ref_terms.specs.search.Program.{Program, Query}
use Rattle.ref_terms.specs.search.Instance.{instance}
use Rattle.ref_terms.specs.search.Branch.{Branch}
use Rattle.ref_terms.specs.search.State.{Event, Failure, Faulted, State, Running}
use Rattle.ref_terms.specs.search.Resolve.{Unification}
use Rattle.ref_terms.specs.search.Next.{next}

-- the query as the one goal, without names and assumptions
abbrev pub query_branch : Query → Branch
query_branch q = record {
  goals = record { names = 0; assumptions = []; barrier = 0; term = instance 0 0 q.goal } ∷ [];
  store = [];
  fired = [];
  query = map (λ v. At (Var v)) (names_below (length q.variables));
  next_var = length q.variables;
  declared = 0;
  path = [];
}

-- the state whose one goal is the query
abbrev pub first_state : Query → State
first_state q = Running (query_branch q) []

-- an event and those after it; none comes after failure or a fault
abbrev pub following : (State → List Event) → Event → State → List Event
following later Failure s = Failure ∷ []
following later (Faulted f) s = Faulted f ∷ []
following later e s = e ∷ later s

-- the events of at most so many moves
abbrev pub events : Unification → Program → ℕ → State → List Event
events unify program zero s = []
events unify program (suc n) s = let m = next unify program s in following (events unify program n) m.event m.state
