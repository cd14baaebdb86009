-- What the law on the variables of states says.
use Rattle.ref_terms.specs.unification.Unification.{unify}
use Rattle.ref_terms.specs.search.Program.{Program, Query}
use Rattle.ref_terms.specs.search.State.{State}
use Rattle.ref_terms.specs.search.Next.{next}
use Rattle.ref_terms.specs.search.Events.{first_state}
use Rattle.ref_terms.specs.search.Below.{ProgramBelow, QueryBelow, StateBelow}

-- in the first state of a query all variables are below the next one
abbrev pub FirstStateIsBelow : Type 0
FirstStateIsBelow = (query : Query) → QueryBelow query → StateBelow (first_state query)

-- and so they are in the state after a move
abbrev pub MovesStayBelow : Type 0
MovesStayBelow = (program : Program) → ProgramBelow program → (s : State) → StateBelow s → StateBelow (next unify program s).state
