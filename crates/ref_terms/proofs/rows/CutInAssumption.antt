-- Program: pred q o:t. r a. r b.
-- Query: (Z = 1 ; Z = 2), ((pi X\ q X :- r X, !) => q Y)
-- Moves: 18
use Rattle.std.proofs.Common.{◌≡◌, true, false, [], ◌∷◌, ◌++◌, None, codes, refl}
use Rattle.std.specs.Fmt.{digits}
use Rattle.ref_terms.specs.terms.Term.{Lam, App}
use Rattle.ref_terms.specs.terms.Ready.{ready}
use Rattle.ref_terms.specs.unification.Rules.{step}
use Rattle.ref_terms.specs.search.Program.{Program, Query}
use Rattle.ref_terms.proofs.rows.Output.{output}
use Rattle.ref_terms.specs.search.Next.{next}
use Rattle.ref_terms.proofs.Samples.{constant, variable, bound, integer, table, lines}

-- the program
abbrev program : Program
program = record {
  symbols = table ++ codes "q" ∷ codes "r" ∷ codes "a" ∷ codes "b" ∷ codes "Z" ∷ codes "Y" ∷ [];
  preds = record { name = 25; inputs = false ∷ [] } ∷ [];
  clauses = record { variables = 0; head = App (constant 26) (constant 27); body = None } ∷ record { variables = 0; head = App (constant 26) (constant 28); body = None } ∷ [];
  rules = [];
}

-- the query
abbrev query : Query
query = record { variables = record { name = 29; shown = true } ∷ record { name = 30; shown = true } ∷ []; goal = App (App (constant 3) (App (App (constant 4) (App (App (constant 9) (variable 0)) (integer 1))) (App (App (constant 9) (variable 0)) (integer 2)))) (App (App (constant 5) (App (constant 7) (Lam (App (App (constant 6) (App (constant 25) (bound 0))) (App (App (constant 3) (App (constant 26) (bound 0))) (constant 2)))))) (App (constant 25) (variable 1))) }

-- what the run writes
pub row : output program query 18 0 ≡ lines (codes "answer 1" ∷ codes "  Z = 1" ∷ codes "  Y = a" ∷ codes "answer 2" ∷ codes "  Z = 2" ∷ codes "  Y = a" ∷ codes "no more" ∷ [])
unfolding step ready next digits
row = refl
