-- Program: p a.
-- Query: X = p, X a b
-- Moves: 3
use Rattle.std.proofs.Common.{◌≡◌, true, [], ◌∷◌, ◌++◌, None, codes, refl}
use Rattle.std.specs.Fmt.{digits}
use Rattle.ref_terms.specs.terms.Term.{App}
use Rattle.ref_terms.specs.terms.Ready.{ready}
use Rattle.ref_terms.specs.unification.Rules.{step}
use Rattle.ref_terms.specs.search.Program.{Program, Query}
use Rattle.ref_terms.proofs.rows.Output.{output}
use Rattle.ref_terms.specs.search.Next.{next}
use Rattle.ref_terms.proofs.Samples.{constant, variable, table, lines}

-- the program
abbrev program : Program
program = record {
  symbols = table ++ codes "p" ∷ codes "a" ∷ codes "b" ∷ codes "X" ∷ [];
  preds = [];
  clauses = record { variables = 0; head = App (constant 25) (constant 26); body = None } ∷ [];
  rules = [];
}

-- the query
abbrev query : Query
query = record { variables = record { name = 28; shown = true } ∷ []; goal = App (App (constant 3) (App (App (constant 9) (variable 0)) (constant 25))) (App (App (variable 0) (constant 26)) (constant 27)) }

-- what the run writes
pub row : output program query 3 0 ≡ lines (codes "fault: arity" ∷ [])
unfolding step ready next digits
row = refl
