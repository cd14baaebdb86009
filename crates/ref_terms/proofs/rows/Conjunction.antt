-- Program: p :- q, r. q. r.
-- Query: p
-- Moves: 6
use Rattle.std.proofs.Common.{◌≡◌, [], ◌∷◌, ◌++◌, Some, None, codes, refl}
use Rattle.std.specs.Fmt.{digits}
use Rattle.ref_terms.specs.terms.Term.{App}
use Rattle.ref_terms.specs.terms.Ready.{ready}
use Rattle.ref_terms.specs.unification.Rules.{step}
use Rattle.ref_terms.specs.search.Program.{Program, Query}
use Rattle.ref_terms.proofs.rows.Output.{output}
use Rattle.ref_terms.specs.search.Next.{next}
use Rattle.ref_terms.proofs.Samples.{constant, table, lines}

-- the program
abbrev program : Program
program = record {
  symbols = table ++ codes "p" ∷ codes "q" ∷ codes "r" ∷ [];
  preds = [];
  clauses = record { variables = 0; head = constant 25; body = (Some (App (App (constant 3) (constant 26)) (constant 27))) } ∷ record { variables = 0; head = constant 26; body = None } ∷ record { variables = 0; head = constant 27; body = None } ∷ [];
  rules = [];
}

-- the query
abbrev query : Query
query = record { variables = []; goal = constant 25 }

-- what the run writes
pub row : output program query 6 0 ≡ lines (codes "answer 1" ∷ codes "no more" ∷ [])
unfolding step ready next digits
row = refl
