-- Program: empty
-- Query: pi x\ X = F a x
-- Moves: 2
use Rattle.std.proofs.Common.{◌≡◌, true, [], ◌∷◌, ◌++◌, codes, refl}
use Rattle.std.specs.Fmt.{digits}
use Rattle.ref_terms.specs.terms.Term.{Lam, App}
use Rattle.ref_terms.specs.terms.Ready.{ready}
use Rattle.ref_terms.specs.unification.Rules.{step}
use Rattle.ref_terms.specs.search.Program.{Program, Query}
use Rattle.ref_terms.proofs.rows.Output.{output}
use Rattle.ref_terms.specs.search.Next.{next}
use Rattle.ref_terms.proofs.Samples.{constant, variable, bound, table, lines}

-- the program
abbrev program : Program
program = record {
  symbols = table ++ codes "a" ∷ codes "X" ∷ codes "F" ∷ [];
  preds = [];
  clauses = [];
  rules = [];
}

-- the query
abbrev query : Query
query = record { variables = record { name = 26; shown = true } ∷ record { name = 27; shown = true } ∷ []; goal = App (constant 7) (Lam (App (App (constant 9) (variable 0)) (App (App (variable 1) (constant 25)) (bound 0)))) }

-- what the run writes
pub row : output program query 2 0 ≡ lines (codes "fault: scope" ∷ [])
unfolding step ready next digits
row = refl
