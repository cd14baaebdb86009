-- Program: pred q o:t, i:t. q Y a. q Y b.
-- Query: q X b
-- Moves: 3
use Rattle.std.proofs.Common.{◌≡◌, true, false, [], ◌∷◌, ◌++◌, None, codes, refl}
use Rattle.std.specs.Fmt.{digits}
use Rattle.ref_terms.specs.terms.Term.{App}
use Rattle.ref_terms.specs.terms.Ready.{ready}
use Rattle.ref_terms.specs.unification.Rules.{step}
use Rattle.ref_terms.specs.search.Program.{Program, Query}
use Rattle.ref_terms.proofs.rows.Output.{output}
use Rattle.ref_terms.specs.search.Next.{next}
use Rattle.ref_terms.proofs.Samples.{constant, variable, table, lines}

-- the program
abbrev program : Program
program = record {
  symbols = table ++ codes "q" ∷ codes "a" ∷ codes "b" ∷ codes "X" ∷ [];
  preds = record { name = 25; inputs = false ∷ true ∷ [] } ∷ [];
  clauses = record { variables = 1; head = App (App (constant 25) (variable 0)) (constant 26); body = None } ∷ record { variables = 1; head = App (App (constant 25) (variable 0)) (constant 27); body = None } ∷ [];
  rules = [];
}

-- the query
abbrev query : Query
query = record { variables = record { name = 28; shown = true } ∷ []; goal = App (App (constant 25) (variable 0)) (constant 27) }

-- what the run writes
pub row : output program query 3 0 ≡ lines (codes "answer 1" ∷ codes "  X = ?0" ∷ codes "no more" ∷ [])
unfolding step ready next digits
row = refl
