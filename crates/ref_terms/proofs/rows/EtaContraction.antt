-- Program: empty
-- Query: X = (a\ f a)
-- Moves: 3
use Rattle.std.proofs.Common.{◌≡◌, true, [], ◌∷◌, ◌++◌, codes, refl}
use Rattle.std.specs.Fmt.{digits}
use Rattle.ref_terms.specs.terms.Term.{App}
use Rattle.ref_terms.specs.terms.Ready.{ready}
use Rattle.ref_terms.specs.unification.Rules.{step}
use Rattle.ref_terms.specs.search.Program.{Program, Query}
use Rattle.ref_terms.proofs.rows.Output.{output}
use Rattle.ref_terms.specs.search.Next.{next}
use Rattle.ref_terms.proofs.Samples.{constant, variable, table, lines}

-- the program
abbrev program : Program
program = record {
  symbols = table ++ codes "f" ∷ codes "X" ∷ [];
  preds = [];
  clauses = [];
  rules = [];
}

-- the query
abbrev query : Query
query = record { variables = record { name = 26; shown = true } ∷ []; goal = App (App (constant 9) (variable 0)) (constant 25) }

-- what the run writes
pub row : output program query 3 0 ≡ lines (codes "answer 1" ∷ codes "  X = f" ∷ codes "no more" ∷ [])
unfolding step ready next digits
row = refl
