-- What an example's run writes.
use Rattle.std.specs.Prelude.{ℕ, zero, suc, Bool, false, cond, ◌&&◌, not, nat_eq, nat_le, List, [], ◌∷◌, ◌++◌, flat_map, codes, unwrap_or}
use Rattle.ref_terms.specs.unification.Problem.{Clashed}
use Rattle.ref_terms.specs.unification.Run.{run}
use Rattle.ref_terms.specs.search.Fault.{fault_name}
use Rattle.ref_terms.specs.search.Program.{Program, QueryVar, Query}
use Rattle.ref_terms.specs.search.State.{Event, Moved, Printed, Answered, Failure, Faulted}
use Rattle.ref_terms.specs.search.Resolve.{Unification}
use Rattle.ref_terms.specs.search.Events.{events, first_state}
use Rattle.ref_terms.specs.texts.Answer.{answer_block, path_line}

-- unification by at most 200 steps, which all examples stay below
abbrev counted : Unification
counted mark problem = unwrap_or (run mark 200 problem) (Clashed false)

-- a text as a line
abbrev line : List ℕ → List ℕ
line text = text ++ 10 ∷ []

-- the last line after a failure, by how many answers there were
abbrev after_failure : (count : ℕ) → List ℕ
after_failure zero = line (codes "failure")
after_failure (suc n) = line (codes "no more")

-- whether so many answers are enough; a limit of 0 is none
abbrev is_reached : (limit count : ℕ) → Bool
is_reached limit count = not (nat_eq limit 0) && nat_le limit count

-- the bytes of the events after so many answers
abbrev written : List (List ℕ) → List QueryVar → (limit count : ℕ) → List Event → List ℕ
written table vs limit count [] = line (codes "out of steps")
written table vs limit count (Moved ∷ es) = written table vs limit count es
written table vs limit count (Printed t ∷ es) = t ++ written table vs limit count es
written table vs limit count (Answered b ∷ es) = answer_block table vs (suc count) b ++ cond (is_reached limit (suc count)) (line (codes "stopped")) (written table vs limit (suc count) es)
written table vs limit count (Failure ∷ es) = after_failure count
written table vs limit count (Faulted f ∷ es) = line (codes "fault: " ++ fault_name f)

-- the bytes of the run of a query, with at most so many moves and answers
abbrev pub output : Program → Query → (steps limit : ℕ) → List ℕ
output p q steps limit = written p.symbols q.variables limit 0 (events counted p steps (first_state q))

-- the path line of an answer
abbrev event_path : Event → List ℕ
event_path (Answered b) = path_line b.path
event_path _ = []

-- the path lines of a query's answers, within so many moves
abbrev pub paths : Program → Query → (steps : ℕ) → List ℕ
paths p q steps = flat_map event_path (events counted p steps (first_state q))
