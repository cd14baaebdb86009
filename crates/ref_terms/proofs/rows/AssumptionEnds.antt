-- Program: pred h o:t. p :- h a.
-- Query: (h a => p), h a
-- Moves: 6
use Rattle.std.proofs.Common.{◌≡◌, false, [], ◌∷◌, ◌++◌, Some, codes, refl}
use Rattle.std.specs.Fmt.{digits}
use Rattle.ref_terms.specs.terms.Term.{App}
use Rattle.ref_terms.specs.terms.Ready.{ready}
use Rattle.ref_terms.specs.unification.Rules.{step}
use Rattle.ref_terms.specs.search.Program.{Program, Query}
use Rattle.ref_terms.proofs.rows.Output.{output}
use Rattle.ref_terms.specs.search.Next.{next}
use Rattle.ref_terms.proofs.Samples.{constant, table, lines}

-- the program
abbrev program : Program
program = record {
  symbols = table ++ codes "h" ∷ codes "p" ∷ codes "a" ∷ [];
  preds = record { name = 25; inputs = false ∷ [] } ∷ [];
  clauses = record { variables = 0; head = constant 26; body = (Some (App (constant 25) (constant 27))) } ∷ [];
  rules = [];
}

-- the query
abbrev query : Query
query = record { variables = []; goal = App (App (constant 3) (App (App (constant 5) (App (constant 25) (constant 27))) (constant 26))) (App (constant 25) (constant 27)) }

-- what the run writes
pub row : output program query 6 0 ≡ lines (codes "failure" ∷ [])
unfolding step ready next digits
row = refl
