-- Program: pred q o:t. q f.
-- Query: q (x\ f (Y x))
-- Moves: 3
use Rattle.std.proofs.Common.{◌≡◌, true, false, [], ◌∷◌, ◌++◌, None, codes, refl}
use Rattle.std.specs.Fmt.{digits}
use Rattle.ref_terms.specs.terms.Term.{Lam, App}
use Rattle.ref_terms.specs.terms.Ready.{ready}
use Rattle.ref_terms.specs.unification.Rules.{step}
use Rattle.ref_terms.specs.search.Program.{Program, Query}
use Rattle.ref_terms.proofs.rows.Output.{output}
use Rattle.ref_terms.specs.search.Next.{next}
use Rattle.ref_terms.proofs.Samples.{constant, variable, bound, table, lines}

-- the program
abbrev program : Program
program = record {
  symbols = table ++ codes "q" ∷ codes "f" ∷ codes "Y" ∷ [];
  preds = record { name = 25; inputs = false ∷ [] } ∷ [];
  clauses = record { variables = 0; head = App (constant 25) (constant 26); body = None } ∷ [];
  rules = [];
}

-- the query
abbrev query : Query
query = record { variables = record { name = 27; shown = true } ∷ []; goal = App (constant 25) (Lam (App (constant 26) (App (variable 0) (bound 0)))) }

-- what the run writes
pub row : output program query 3 0 ≡ lines (codes "answer 1" ∷ codes "  Y = @0\\ @0" ∷ codes "no more" ∷ [])
unfolding step ready next digits
row = refl
