-- States of a search, its events and moves.
use Rattle.std.specs.Prelude.{ℕ, List, Option}
use Rattle.ref_terms.specs.declared.fault.Fault.{Fault}
use Rattle.ref_terms.specs.search.Program.{Clause}
use Rattle.ref_terms.specs.search.Assumption.{Assumption}
use Rattle.ref_terms.specs.search.Branch.{Branch}

-- a clause with its place: in the program's text, or in the order in which assumptions are tried
pub data Candidate : Type 0 where
  of_program : (place : ℕ) → Clause → Candidate
  of_assumption : (place : ℕ) → Assumption → Candidate

-- a branch as it was at a call, with the clauses after the one that was taken; or the right side of `;`
pub data Alternative : Type 0 where
  later_clauses : Branch → List Candidate → Alternative
  other_side : Branch → Alternative

-- what a move shows
pub data Event : Type 0 where
  Moved : Event
  Printed : List ℕ → Event
  Answered : Branch → Event
  Failure : Event
  Faulted : Fault → Event

-- alternatives stand newest first; an ended branch is kept where it was an answer
pub data State : Type 0 where
  Running : Branch → List Alternative → State
  Ended : Option Branch → List Alternative → State
  Over : Event → State

-- a move's event and the state after it
pub record Move : Type 0 where
  pub event : Event
  pub state : State

-- the move to a branch
abbrev pub goes_on : Branch → List Alternative → Move
goes_on b alts = record { event = Moved; state = Running b alts }

-- the last move
abbrev pub stops : Event → Move
stops e = record { event = e; state = Over e }

-- the move that ends in a fault
abbrev pub faults : Fault → Move
faults f = stops (Faulted f)
