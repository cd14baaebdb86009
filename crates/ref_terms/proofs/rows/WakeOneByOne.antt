-- Program: pred t o:t. pred s o:t. t X :- print X. s X :- declare_constraint (t X) [X].
-- Query: s X, s Y, Y = b, X = a
-- Moves: 17
use Rattle.std.proofs.Common.{◌≡◌, true, false, [], ◌∷◌, ◌++◌, Some, codes, refl}
use Rattle.std.specs.Fmt.{digits}
use Rattle.ref_terms.specs.terms.Term.{App}
use Rattle.ref_terms.specs.terms.Ready.{ready}
use Rattle.ref_terms.specs.unification.Rules.{step}
use Rattle.ref_terms.specs.search.Program.{Program, Query}
use Rattle.ref_terms.proofs.rows.Output.{output}
use Rattle.ref_terms.specs.search.Next.{next}
use Rattle.ref_terms.proofs.Samples.{constant, variable, table, lines}

-- the program
abbrev program : Program
program = record {
  symbols = table ++ codes "t" ∷ codes "s" ∷ codes "b" ∷ codes "a" ∷ codes "X" ∷ codes "Y" ∷ [];
  preds = record { name = 25; inputs = false ∷ [] } ∷ record { name = 26; inputs = false ∷ [] } ∷ [];
  clauses = record { variables = 1; head = App (constant 25) (variable 0); body = (Some (App (constant 15) (variable 0))) } ∷ record { variables = 1; head = App (constant 26) (variable 0); body = (Some (App (App (constant 17) (App (constant 25) (variable 0))) (App (App (constant 19) (variable 0)) (constant 18)))) } ∷ [];
  rules = [];
}

-- the query
abbrev query : Query
query = record { variables = record { name = 29; shown = true } ∷ record { name = 30; shown = true } ∷ []; goal = App (App (constant 3) (App (constant 26) (variable 0))) (App (App (constant 3) (App (constant 26) (variable 1))) (App (App (constant 3) (App (App (constant 9) (variable 1)) (constant 27))) (App (App (constant 9) (variable 0)) (constant 28)))) }

-- what the run writes
pub row : output program query 17 0 ≡ lines (codes "b" ∷ codes "a" ∷ codes "answer 1" ∷ codes "  X = a" ∷ codes "  Y = b" ∷ codes "no more" ∷ [])
unfolding step ready next digits
row = refl
