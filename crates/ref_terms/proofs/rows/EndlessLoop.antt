-- Program: p :- p.
-- Query: p
-- Moves: 100
use Rattle.std.proofs.Common.{◌≡◌, [], ◌∷◌, ◌++◌, Some, codes, refl}
use Rattle.std.specs.Fmt.{digits}
use Rattle.ref_terms.specs.terms.Ready.{ready}
use Rattle.ref_terms.specs.unification.Rules.{step}
use Rattle.ref_terms.specs.search.Program.{Program, Query}
use Rattle.ref_terms.proofs.rows.Output.{output}
use Rattle.ref_terms.specs.search.Next.{next}
use Rattle.ref_terms.proofs.Samples.{constant, table, lines}

-- the program
abbrev program : Program
program = record {
  symbols = table ++ codes "p" ∷ [];
  preds = [];
  clauses = record { variables = 0; head = constant 25; body = (Some (constant 25)) } ∷ [];
  rules = [];
}

-- the query
abbrev query : Query
query = record { variables = []; goal = constant 25 }

-- what the run writes
pub row : output program query 100 0 ≡ lines (codes "out of steps" ∷ [])
unfolding step ready next digits
row = refl
