-- Program: empty
-- Query: pi x\ print (f x X)
-- Moves: 4
use Rattle.std.proofs.Common.{◌≡◌, true, [], ◌∷◌, ◌++◌, codes, refl}
use Rattle.std.specs.Fmt.{digits}
use Rattle.ref_terms.specs.terms.Term.{Lam, App}
use Rattle.ref_terms.specs.terms.Ready.{ready}
use Rattle.ref_terms.specs.unification.Rules.{step}
use Rattle.ref_terms.specs.search.Program.{Program, Query}
use Rattle.ref_terms.proofs.rows.Output.{output}
use Rattle.ref_terms.specs.search.Next.{next}
use Rattle.ref_terms.proofs.Samples.{constant, variable, bound, table, lines}

-- the program
abbrev program : Program
program = record {
  symbols = table ++ codes "f" ∷ codes "X" ∷ [];
  preds = [];
  clauses = [];
  rules = [];
}

-- the query
abbrev query : Query
query = record { variables = record { name = 26; shown = true } ∷ []; goal = App (constant 7) (Lam (App (constant 15) (App (App (constant 25) (bound 0)) (variable 0)))) }

-- what the run writes
pub row : output program query 4 0 ≡ lines (codes "f #0 ?0" ∷ codes "answer 1" ∷ codes "  X = ?0" ∷ codes "no more" ∷ [])
unfolding step ready next digits
row = refl
