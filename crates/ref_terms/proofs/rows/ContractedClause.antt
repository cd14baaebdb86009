-- Program: pred q o:t. q g. q (x\ f x). q X.
-- Query: q f
-- Moves: 5
use Rattle.std.proofs.Common.{◌≡◌, false, [], ◌∷◌, ◌++◌, None, codes, refl}
use Rattle.std.specs.Fmt.{digits}
use Rattle.ref_terms.specs.terms.Term.{App}
use Rattle.ref_terms.specs.terms.Ready.{ready}
use Rattle.ref_terms.specs.unification.Rules.{step}
use Rattle.ref_terms.specs.search.Program.{Program, Query}
use Rattle.ref_terms.proofs.rows.Output.{output}
use Rattle.ref_terms.specs.search.Next.{next}
use Rattle.ref_terms.proofs.Samples.{constant, variable, table, lines}

-- the program
abbrev program : Program
program = record {
  symbols = table ++ codes "q" ∷ codes "g" ∷ codes "f" ∷ [];
  preds = record { name = 25; inputs = false ∷ [] } ∷ [];
  clauses = record { variables = 0; head = App (constant 25) (constant 26); body = None } ∷ record { variables = 0; head = App (constant 25) (constant 27); body = None } ∷ record { variables = 1; head = App (constant 25) (variable 0); body = None } ∷ [];
  rules = [];
}

-- the query
abbrev query : Query
query = record { variables = []; goal = App (constant 25) (constant 27) }

-- what the run writes
pub row : output program query 5 0 ≡ lines (codes "answer 1" ∷ codes "answer 2" ∷ codes "no more" ∷ [])
unfolding step ready next digits
row = refl
