-- Program: p a. p b.
-- Query: p X
-- Moves: 5
use Rattle.std.proofs.Common.{◌≡◌, true, [], ◌∷◌, ◌++◌, None, codes, refl}
use Rattle.std.specs.Fmt.{digits}
use Rattle.ref_terms.specs.terms.Term.{App}
use Rattle.ref_terms.specs.terms.Ready.{ready}
use Rattle.ref_terms.specs.unification.Rules.{step}
use Rattle.ref_terms.specs.search.Program.{Program, Query}
use Rattle.ref_terms.proofs.rows.Output.{output}
use Rattle.ref_terms.specs.search.Next.{next}
use Rattle.ref_terms.proofs.Samples.{constant, variable, table, lines}

-- the program
abbrev program : Program
program = record {
  symbols = table ++ codes "p" ∷ codes "a" ∷ codes "b" ∷ codes "X" ∷ [];
  preds = [];
  clauses = record { variables = 0; head = App (constant 25) (constant 26); body = None } ∷ record { variables = 0; head = App (constant 25) (constant 27); body = None } ∷ [];
  rules = [];
}

-- the query
abbrev query : Query
query = record { variables = record { name = 28; shown = true } ∷ []; goal = App (constant 25) (variable 0) }

-- what the run writes
pub row : output program query 5 0 ≡ lines (codes "answer 1" ∷ codes "  X = a" ∷ codes "answer 2" ∷ codes "  X = b" ∷ codes "no more" ∷ [])
unfolding step ready next digits
row = refl
