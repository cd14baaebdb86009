-- Program: empty
-- Query: X = c ; F a = b
-- Moves: 5
use Rattle.std.proofs.Common.{◌≡◌, true, [], ◌∷◌, ◌++◌, codes, refl}
use Rattle.std.specs.Fmt.{digits}
use Rattle.ref_terms.specs.terms.Term.{App}
use Rattle.ref_terms.specs.terms.Ready.{ready}
use Rattle.ref_terms.specs.unification.Rules.{step}
use Rattle.ref_terms.specs.search.Program.{Program, Query}
use Rattle.ref_terms.proofs.rows.Output.{output}
use Rattle.ref_terms.specs.search.Next.{next}
use Rattle.ref_terms.proofs.Samples.{constant, variable, table, lines}

-- the program
abbrev program : Program
program = record {
  symbols = table ++ codes "c" ∷ codes "a" ∷ codes "b" ∷ codes "X" ∷ codes "F" ∷ [];
  preds = [];
  clauses = [];
  rules = [];
}

-- the query
abbrev query : Query
query = record { variables = record { name = 28; shown = true } ∷ record { name = 29; shown = true } ∷ []; goal = App (App (constant 4) (App (App (constant 9) (variable 0)) (constant 25))) (App (App (constant 9) (App (variable 1) (constant 26))) (constant 27)) }

-- what the run writes
pub row : output program query 5 0 ≡ lines (codes "answer 1" ∷ codes "  X = c" ∷ codes "  F = ?0" ∷ codes "fault: pattern" ∷ [])
unfolding step ready next digits
row = refl
