-- Program: pred q o:t. q a. q b. p X :- q X, !. p c.
-- Query: p X
-- Moves: 6
use Rattle.std.proofs.Common.{◌≡◌, true, false, [], ◌∷◌, ◌++◌, Some, None, codes, refl}
use Rattle.std.specs.Fmt.{digits}
use Rattle.ref_terms.specs.terms.Term.{App}
use Rattle.ref_terms.specs.terms.Ready.{ready}
use Rattle.ref_terms.specs.unification.Rules.{step}
use Rattle.ref_terms.specs.search.Program.{Program, Query}
use Rattle.ref_terms.proofs.rows.Output.{output}
use Rattle.ref_terms.specs.search.Next.{next}
use Rattle.ref_terms.proofs.Samples.{constant, variable, table, lines}

-- the program
abbrev program : Program
program = record {
  symbols = table ++ codes "q" ∷ codes "a" ∷ codes "b" ∷ codes "p" ∷ codes "c" ∷ codes "X" ∷ [];
  preds = record { name = 25; inputs = false ∷ [] } ∷ [];
  clauses = record { variables = 0; head = App (constant 25) (constant 26); body = None } ∷ record { variables = 0; head = App (constant 25) (constant 27); body = None } ∷ record { variables = 1; head = App (constant 28) (variable 0); body = (Some (App (App (constant 3) (App (constant 25) (variable 0))) (constant 2))) } ∷ record { variables = 0; head = App (constant 28) (constant 29); body = None } ∷ [];
  rules = [];
}

-- the query
abbrev query : Query
query = record { variables = record { name = 30; shown = true } ∷ []; goal = App (constant 28) (variable 0) }

-- what the run writes
pub row : output program query 6 0 ≡ lines (codes "answer 1" ∷ codes "  X = a" ∷ codes "no more" ∷ [])
unfolding step ready next digits
row = refl
