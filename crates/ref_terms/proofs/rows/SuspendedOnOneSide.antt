-- Program: pred s o:t. pred t o:t. s X :- declare_constraint (t X) [X]. t a.
-- Query: s X, fail ; X = b
-- Moves: 9
use Rattle.std.proofs.Common.{◌≡◌, true, false, [], ◌∷◌, ◌++◌, Some, None, codes, refl}
use Rattle.std.specs.Fmt.{digits}
use Rattle.ref_terms.specs.terms.Term.{App}
use Rattle.ref_terms.specs.terms.Ready.{ready}
use Rattle.ref_terms.specs.unification.Rules.{step}
use Rattle.ref_terms.specs.search.Program.{Program, Query}
use Rattle.ref_terms.proofs.rows.Output.{output}
use Rattle.ref_terms.specs.search.Next.{next}
use Rattle.ref_terms.proofs.Samples.{constant, variable, table, lines}

-- the program
abbrev program : Program
program = record {
  symbols = table ++ codes "s" ∷ codes "t" ∷ codes "a" ∷ codes "b" ∷ codes "X" ∷ [];
  preds = record { name = 25; inputs = false ∷ [] } ∷ record { name = 26; inputs = false ∷ [] } ∷ [];
  clauses = record { variables = 1; head = App (constant 25) (variable 0); body = (Some (App (App (constant 17) (App (constant 26) (variable 0))) (App (App (constant 19) (variable 0)) (constant 18)))) } ∷ record { variables = 0; head = App (constant 26) (constant 27); body = None } ∷ [];
  rules = [];
}

-- the query
abbrev query : Query
query = record { variables = record { name = 29; shown = true } ∷ []; goal = App (App (constant 4) (App (App (constant 3) (App (constant 25) (variable 0))) (constant 1))) (App (App (constant 9) (variable 0)) (constant 28)) }

-- what the run writes
pub row : output program query 9 0 ≡ lines (codes "answer 1" ∷ codes "  X = b" ∷ codes "no more" ∷ [])
unfolding step ready next digits
row = refl
