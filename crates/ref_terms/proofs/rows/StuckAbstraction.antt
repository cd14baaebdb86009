-- Program: empty
-- Query: X = (a\ f a a), X (b\ g b b) = c
-- Moves: 3
use Rattle.std.proofs.Common.{◌≡◌, true, [], ◌∷◌, ◌++◌, codes, refl}
use Rattle.std.specs.Fmt.{digits}
use Rattle.ref_terms.specs.terms.Term.{Lam, App}
use Rattle.ref_terms.specs.terms.Ready.{ready}
use Rattle.ref_terms.specs.unification.Rules.{step}
use Rattle.ref_terms.specs.search.Program.{Program, Query}
use Rattle.ref_terms.proofs.rows.Output.{output}
use Rattle.ref_terms.specs.search.Next.{next}
use Rattle.ref_terms.proofs.Samples.{constant, variable, bound, table, lines}

-- the program
abbrev program : Program
program = record {
  symbols = table ++ codes "f" ∷ codes "g" ∷ codes "c" ∷ codes "X" ∷ [];
  preds = [];
  clauses = [];
  rules = [];
}

-- the query
abbrev query : Query
query = record { variables = record { name = 28; shown = true } ∷ []; goal = App (App (constant 3) (App (App (constant 9) (variable 0)) (Lam (App (App (constant 25) (bound 0)) (bound 0))))) (App (App (constant 9) (App (variable 0) (Lam (App (App (constant 26) (bound 0)) (bound 0))))) (constant 27)) }

-- what the run writes
pub row : output program query 3 0 ≡ lines (codes "fault: redex" ∷ [])
unfolding step ready next digits
row = refl
