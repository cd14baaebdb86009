-- Program: pred q i:t. q (f A).
-- Query: q X
-- Moves: 2
use Rattle.std.proofs.Common.{◌≡◌, true, [], ◌∷◌, ◌++◌, None, codes, refl}
use Rattle.std.specs.Fmt.{digits}
use Rattle.ref_terms.specs.terms.Term.{App}
use Rattle.ref_terms.specs.terms.Ready.{ready}
use Rattle.ref_terms.specs.unification.Rules.{step}
use Rattle.ref_terms.specs.search.Program.{Program, Query}
use Rattle.ref_terms.proofs.rows.Output.{output}
use Rattle.ref_terms.specs.search.Next.{next}
use Rattle.ref_terms.proofs.Samples.{constant, variable, table, lines}

-- the program
abbrev program : Program
program = record {
  symbols = table ++ codes "q" ∷ codes "f" ∷ codes "X" ∷ [];
  preds = record { name = 25; inputs = true ∷ [] } ∷ [];
  clauses = record { variables = 1; head = App (constant 25) (App (constant 26) (variable 0)); body = None } ∷ [];
  rules = [];
}

-- the query
abbrev query : Query
query = record { variables = record { name = 27; shown = true } ∷ []; goal = App (constant 25) (variable 0) }

-- what the run writes
pub row : output program query 2 0 ≡ lines (codes "failure" ∷ [])
unfolding step ready next digits
row = refl
