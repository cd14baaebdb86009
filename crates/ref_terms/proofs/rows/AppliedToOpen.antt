-- Program: empty
-- Query: X = (a\ f a a), X (g Y) = Z
-- Moves: 5
use Rattle.std.proofs.Common.{◌≡◌, true, [], ◌∷◌, ◌++◌, codes, refl}
use Rattle.std.specs.Fmt.{digits}
use Rattle.ref_terms.specs.terms.Term.{Lam, App}
use Rattle.ref_terms.specs.terms.Ready.{ready}
use Rattle.ref_terms.specs.unification.Rules.{step}
use Rattle.ref_terms.specs.search.Program.{Program, Query}
use Rattle.ref_terms.proofs.rows.Output.{output}
use Rattle.ref_terms.specs.search.Next.{next}
use Rattle.ref_terms.proofs.Samples.{constant, variable, bound, table, lines}

-- the program
abbrev program : Program
program = record {
  symbols = table ++ codes "f" ∷ codes "g" ∷ codes "X" ∷ codes "Y" ∷ codes "Z" ∷ [];
  preds = [];
  clauses = [];
  rules = [];
}

-- the query
abbrev query : Query
query = record { variables = record { name = 27; shown = true } ∷ record { name = 28; shown = true } ∷ record { name = 29; shown = true } ∷ []; goal = App (App (constant 3) (App (App (constant 9) (variable 0)) (Lam (App (App (constant 25) (bound 0)) (bound 0))))) (App (App (constant 9) (App (variable 0) (App (constant 26) (variable 1)))) (variable 2)) }

-- what the run writes
pub row : output program query 5 0 ≡ lines (codes "answer 1" ∷ codes "  X = @0\\ f @0 @0" ∷ codes "  Y = ?0" ∷ codes "  Z = f (g ?0) (g ?0)" ∷ codes "no more" ∷ [])
unfolding step ready next digits
row = refl
