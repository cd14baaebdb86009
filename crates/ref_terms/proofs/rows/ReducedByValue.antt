-- Program: empty
-- Query: X = (a\ a), (X b) = c
-- Moves: 4
use Rattle.std.proofs.Common.{◌≡◌, true, [], ◌∷◌, ◌++◌, codes, refl}
use Rattle.std.specs.Fmt.{digits}
use Rattle.ref_terms.specs.terms.Term.{Lam, App}
use Rattle.ref_terms.specs.terms.Ready.{ready}
use Rattle.ref_terms.specs.unification.Rules.{step}
use Rattle.ref_terms.specs.search.Program.{Program, Query}
use Rattle.ref_terms.proofs.rows.Output.{output}
use Rattle.ref_terms.specs.search.Next.{next}
use Rattle.ref_terms.proofs.Samples.{constant, variable, bound, table, lines}

-- the program
abbrev program : Program
program = record {
  symbols = table ++ codes "b" ∷ codes "c" ∷ codes "X" ∷ [];
  preds = [];
  clauses = [];
  rules = [];
}

-- the query
abbrev query : Query
query = record { variables = record { name = 27; shown = true } ∷ []; goal = App (App (constant 3) (App (App (constant 9) (variable 0)) (Lam (bound 0)))) (App (App (constant 9) (App (variable 0) (constant 25))) (constant 26)) }

-- what the run writes
pub row : output program query 4 0 ≡ lines (codes "failure" ∷ [])
unfolding step ready next digits
row = refl
