-- Program: pred q o:t. q a. pred ap o:t. ap F :- F a.
-- Query: ap (x\ q x, q x)
-- Moves: 6
use Rattle.std.proofs.Common.{◌≡◌, false, [], ◌∷◌, ◌++◌, None, Some, codes, refl}
use Rattle.std.specs.Fmt.{digits}
use Rattle.ref_terms.specs.terms.Term.{Lam, App}
use Rattle.ref_terms.specs.terms.Ready.{ready}
use Rattle.ref_terms.specs.unification.Rules.{step}
use Rattle.ref_terms.specs.search.Program.{Program, Query}
use Rattle.ref_terms.proofs.rows.Output.{output}
use Rattle.ref_terms.specs.search.Next.{next}
use Rattle.ref_terms.proofs.Samples.{constant, variable, bound, table, lines}

-- the program
abbrev program : Program
program = record {
  symbols = table ++ codes "q" ∷ codes "a" ∷ codes "ap" ∷ [];
  preds = record { name = 25; inputs = false ∷ [] } ∷ record { name = 27; inputs = false ∷ [] } ∷ [];
  clauses = record { variables = 0; head = App (constant 25) (constant 26); body = None } ∷ record { variables = 1; head = App (constant 27) (variable 0); body = Some (App (variable 0) (constant 26)) } ∷ [];
  rules = [];
}

-- the query
abbrev query : Query
query = record { variables = []; goal = App (constant 27) (Lam (App (App (constant 3) (App (constant 25) (bound 0))) (App (constant 25) (bound 0)))) }

-- what the run writes
pub row : output program query 6 0 ≡ lines (codes "answer 1" ∷ codes "no more" ∷ [])
unfolding step ready next digits
row = refl
