-- Program: empty
-- Query: lt a 1
-- Moves: 1
use Rattle.std.proofs.Common.{◌≡◌, [], ◌∷◌, ◌++◌, codes, refl}
use Rattle.std.specs.Fmt.{digits}
use Rattle.ref_terms.specs.terms.Term.{App}
use Rattle.ref_terms.specs.terms.Ready.{ready}
use Rattle.ref_terms.specs.unification.Rules.{step}
use Rattle.ref_terms.specs.search.Program.{Program, Query}
use Rattle.ref_terms.proofs.rows.Output.{output}
use Rattle.ref_terms.specs.search.Next.{next}
use Rattle.ref_terms.proofs.Samples.{constant, integer, table, lines}

-- the program
abbrev program : Program
program = record {
  symbols = table ++ codes "a" ∷ [];
  preds = [];
  clauses = [];
  rules = [];
}

-- the query
abbrev query : Query
query = record { variables = []; goal = App (App (constant 14) (constant 25)) (integer 1) }

-- what the run writes
pub row : output program query 1 0 ≡ lines (codes "fault: number" ∷ [])
unfolding step ready next digits
row = refl
