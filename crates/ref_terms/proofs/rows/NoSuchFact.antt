-- Program: p a. p b.
-- Query: p c
-- Moves: 2
use Rattle.std.proofs.Common.{◌≡◌, [], ◌∷◌, ◌++◌, None, codes, refl}
use Rattle.std.specs.Fmt.{digits}
use Rattle.ref_terms.specs.terms.Term.{App}
use Rattle.ref_terms.specs.terms.Ready.{ready}
use Rattle.ref_terms.specs.unification.Rules.{step}
use Rattle.ref_terms.specs.search.Program.{Program, Query}
use Rattle.ref_terms.proofs.rows.Output.{output}
use Rattle.ref_terms.specs.search.Next.{next}
use Rattle.ref_terms.proofs.Samples.{constant, table, lines}

-- the program
abbrev program : Program
program = record {
  symbols = table ++ codes "p" ∷ codes "a" ∷ codes "b" ∷ codes "c" ∷ [];
  preds = [];
  clauses = record { variables = 0; head = App (constant 25) (constant 26); body = None } ∷ record { variables = 0; head = App (constant 25) (constant 27); body = None } ∷ [];
  rules = [];
}

-- the query
abbrev query : Query
query = record { variables = []; goal = App (constant 25) (constant 28) }

-- what the run writes
pub row : output program query 2 0 ≡ lines (codes "failure" ∷ [])
unfolding step ready next digits
row = refl
