-- A stripped state, computed.
-- Program: p a. p b :- p b. p c.
-- Query: p b ; true
use Rattle.std.proofs.Common.{◌≡◌, ℕ, zero, suc, false, List, [], ◌∷◌, ◌++◌, map, length, Some, None, codes, refl, unwrap_or}
use Rattle.ref_terms.specs.terms.Term.{App}
use Rattle.ref_terms.specs.terms.Ready.{ready}
use Rattle.ref_terms.specs.unification.Problem.{Clashed}
use Rattle.ref_terms.specs.unification.Rules.{step}
use Rattle.ref_terms.specs.unification.Run.{run}
use Rattle.ref_terms.specs.unification.Unification.{Unification}
use Rattle.ref_terms.specs.search.Program.{Program, Query}
use Rattle.ref_terms.specs.search.State.{State, Running, Ended, Over}
use Rattle.ref_terms.specs.search.Next.{next}
use Rattle.ref_terms.specs.search.Events.{first_state}
use Rattle.ref_terms.specs.search.Strip.{strip}
use Rattle.ref_terms.proofs.Samples.{constant, table}

-- unification by at most 200 steps
abbrev counted : Unification
counted mark problem = unwrap_or (run mark 200 problem) (Clashed false)

-- the program
abbrev program : Program
program = record {
  symbols = table ++ codes "p" ∷ codes "a" ∷ codes "b" ∷ codes "c" ∷ [];
  preds = [];
  clauses = record { variables = 0; head = App (constant 25) (constant 26); body = None }
      ∷ record { variables = 0; head = App (constant 25) (constant 27); body = Some (App (constant 25) (constant 27)) }
      ∷ record { variables = 0; head = App (constant 25) (constant 28); body = None } ∷ [];
  rules = [];
}

-- the query
abbrev query : Query
query = record { variables = []; goal = App (App (constant 4) (App (constant 25) (constant 27))) (constant 0) }

-- the state after so many moves
abbrev after : ℕ → State
after zero = first_state query
after (suc n) = (next counted program (after n)).state

-- the barriers of the goals, before the number of alternatives
abbrev outline : State → List ℕ
outline (Running b xs) = map (λ g. g.barrier) b.goals ++ length xs ∷ []
outline (Ended b xs) = length xs ∷ []
outline (Over e) = []

-- after two calls of `p b`: the last clause waits in two alternatives, over the right side of `;`
pub before : outline (after 3) ≡ 2 ∷ 3 ∷ []
unfolding step ready next
before = refl

-- both clash with `p b`, so that the right side alone is kept, and the barrier counts it alone
pub stripped : outline (strip counted program (after 3)) ≡ 1 ∷ 1 ∷ []
unfolding step ready next
stripped = refl
