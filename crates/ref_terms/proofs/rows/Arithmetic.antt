-- Program: empty
-- Query: X is 2 * 3 - 1
-- Moves: 3
use Rattle.std.proofs.Common.{◌≡◌, true, [], ◌∷◌, ◌++◌, codes, refl}
use Rattle.std.specs.Fmt.{digits}
use Rattle.ref_terms.specs.terms.Term.{App}
use Rattle.ref_terms.specs.terms.Ready.{ready}
use Rattle.ref_terms.specs.unification.Rules.{step}
use Rattle.ref_terms.specs.search.Program.{Program, Query}
use Rattle.ref_terms.proofs.rows.Output.{output}
use Rattle.ref_terms.specs.search.Next.{next}
use Rattle.ref_terms.proofs.Samples.{constant, variable, integer, table, lines}

-- the program
abbrev program : Program
program = record {
  symbols = table ++ codes "X" ∷ [];
  preds = [];
  clauses = [];
  rules = [];
}

-- the query
abbrev query : Query
query = record { variables = record { name = 25; shown = true } ∷ []; goal = App (App (constant 13) (variable 0)) (App (App (constant 21) (App (App (constant 22) (integer 2)) (integer 3))) (integer 1)) }

-- what the run writes
pub row : output program query 3 0 ≡ lines (codes "answer 1" ∷ codes "  X = 5" ∷ codes "no more" ∷ [])
unfolding step ready next digits
row = refl
