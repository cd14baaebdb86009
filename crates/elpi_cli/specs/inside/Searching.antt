-- The search that a machine makes, and what is written of it.
use Rattle.std.specs.Prelude.{◌≡◌, ℕ, List, [], ◌∷◌, map}
use Rattle.ref_terms.specs.unification.Unification.{unify}
use Rattle.ref_terms.specs.search.Program.{Program}
use Rattle.ref_terms.specs.search.State.{Event, Failure, Faulted}
use Rattle.ref_terms.specs.search.Events.{events}
use Rattle.ref_terms.specs.search.Strip.{IsCounted}
use Rattle.lp_resolve.specs.Plain.{plain_variable}
use Rattle.goal_run.specs.Machine.{Machine, Runs, state_of}
use Rattle.elpi_cli.specs.Output.{Output, written}

-- an event and those after it; none comes after failure or a fault
abbrev pub followed : Event → List Event → List Event
followed Failure later = Failure ∷ []
followed (Faulted fault) later = Faulted fault ∷ []
followed e later = e ∷ later

-- what is written of at most so many moves of a machine, after so many answers
abbrev pub written_by : (table : List (List ℕ)) → Program → Machine → (steps limit count : ℕ) → Output
written_by table p m steps limit count = written table (map plain_variable m.variables) limit count (events unify p steps (state_of p m))

-- the machine runs a program, barriers are numbers of alternatives that are there, and what is written of at most so many of its moves is this output
pub record HasOutput (table : List (List ℕ)) (m : Machine) (steps limit : ℕ) (whole : Output) : Type 0 where
  pub program : Program
  pub runs : Runs m program
  pub symbols : program.symbols ≡ table
  pub counted : IsCounted (state_of program m)
  pub output : whole ≡ written_by table program m steps limit 0
