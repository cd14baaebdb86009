-- Program: p a.
-- Query: p
-- Moves: 1
use Rattle.std.proofs.Common.{◌≡◌, [], ◌∷◌, ◌++◌, None, codes, refl}
use Rattle.std.specs.Fmt.{digits}
use Rattle.ref_terms.specs.terms.Term.{App}
use Rattle.ref_terms.specs.terms.Ready.{ready}
use Rattle.ref_terms.specs.unification.Rules.{step}
use Rattle.ref_terms.specs.search.Program.{Program, Query}
use Rattle.ref_terms.proofs.rows.Output.{output}
use Rattle.ref_terms.specs.search.Next.{next}
use Rattle.ref_terms.proofs.Samples.{constant, table, lines}

-- the program
abbrev program : Program
program = record {
  symbols = table ++ codes "p" ∷ codes "a" ∷ [];
  preds = [];
  clauses = record { variables = 0; head = App (constant 25) (constant 26); body = None } ∷ [];
  rules = [];
}

-- the query
abbrev query : Query
query = record { variables = []; goal = constant 25 }

-- what the run writes
pub row : output program query 1 0 ≡ lines (codes "fault: arity" ∷ [])
unfolding step ready next digits
row = refl
