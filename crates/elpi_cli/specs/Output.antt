-- What a search writes, piece by piece, and how it ends.
use Rattle.std.specs.Prelude.{ℕ, suc, zero, List, [], ◌∷◌, ◌++◌, if◌then◌else◌, nat_eq, codes}
use Rattle.ref_terms.specs.unification.Unification.{unify}
use Rattle.ref_terms.specs.search.Fault.{fault_name}
use Rattle.ref_terms.specs.search.Program.{Program, Query, QueryVar}
use Rattle.ref_terms.specs.search.State.{Event, Moved, Printed, Answered, Failure, Faulted}
use Rattle.ref_terms.specs.search.Events.{events, first_state}
use Rattle.ref_terms.specs.texts.Answer.{answer_block}
use Rattle.elpi_cli.specs.declared.status.Status.{Status}
use Rattle.elpi_cli.specs.declared.status.Status.TheVariants.{Done, NoAnswer, Fault, Budget}

-- Each answer block, each printed line and the last line is one piece.
pub record Output : Type 0 where
  pub pieces : List (List ℕ)
  pub status : Status

-- a text and a line feed
abbrev pub line : List ℕ → List ℕ
line text = text ++ 10 ∷ []

-- one line is all that is written
abbrev pub line_only : List ℕ → Status → Output
line_only text status = record { pieces = text ∷ []; status = status }

-- these pieces, and then the output
abbrev pub preceded : List (List ℕ) → Output → Output
preceded pieces output = record { pieces = pieces ++ output.pieces; status = output.status }

-- the end of a search that failed after so many answers
abbrev pub after_failure : ℕ → Output
after_failure zero = line_only (line (codes "failure")) NoAnswer
after_failure (suc count) = line_only (line (codes "no more")) Done

-- What is written of the events after so many answers: a block for each answer up to the limit, each printed line, and
-- the last line. The limit 0 is none.
abbrev pub written : List (List ℕ) → List QueryVar → (limit count : ℕ) → List Event → Output
written table variables limit count [] = line_only (line (codes "out of steps")) Budget
written table variables limit count (Moved ∷ later) = written table variables limit count later
written table variables limit count (Printed text ∷ later) = preceded (text ∷ []) (written table variables limit count later)
written table variables limit count (Answered branch ∷ later) = preceded (answer_block table variables (suc count) branch ∷ [])
    (if nat_eq (suc count) limit then line_only (line (codes "stopped")) Done else written table variables limit (suc count) later)
written table variables limit count (Failure ∷ later) = after_failure count
written table variables limit count (Faulted fault ∷ later) = line_only (codes "fault: " ++ line (fault_name fault)) Fault

-- the output of a query over a program, with at most so many steps and answers
abbrev pub searched : Program → Query → (steps limit : ℕ) → Output
searched program query steps limit = written program.symbols query.variables limit 0 (events unify program steps (first_state query))
