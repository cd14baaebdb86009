-- Program: empty
-- Query: pi x\ pi y\ X x y = Y y x
-- Moves: 5
use Rattle.std.proofs.Common.{◌≡◌, true, [], ◌∷◌, ◌++◌, codes, refl}
use Rattle.std.specs.Fmt.{digits}
use Rattle.ref_terms.specs.terms.Term.{Lam, App}
use Rattle.ref_terms.specs.terms.Ready.{ready}
use Rattle.ref_terms.specs.unification.Rules.{step}
use Rattle.ref_terms.specs.search.Program.{Program, Query}
use Rattle.ref_terms.proofs.rows.Output.{output}
use Rattle.ref_terms.specs.search.Next.{next}
use Rattle.ref_terms.proofs.Samples.{constant, variable, bound, table, lines}

-- the program
abbrev program : Program
program = record {
  symbols = table ++ codes "X" ∷ codes "Y" ∷ [];
  preds = [];
  clauses = [];
  rules = [];
}

-- the query
abbrev query : Query
query = record { variables = record { name = 25; shown = true } ∷ record { name = 26; shown = true } ∷ []; goal = App (constant 7) (Lam (App (constant 7) (Lam (App (App (constant 9) (App (App (variable 0) (bound 1)) (bound 0))) (App (App (variable 1) (bound 0)) (bound 1)))))) }

-- what the run writes
pub row : output program query 5 0 ≡ lines (codes "answer 1" ∷ codes "  X = ?0" ∷ codes "  Y = @0\\ @1\\ ?0 @1 @0" ∷ codes "no more" ∷ [])
unfolding step ready next digits
row = refl
