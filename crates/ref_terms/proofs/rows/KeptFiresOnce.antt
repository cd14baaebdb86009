-- Program: pred c o:t. c X :- declare_constraint (c X) [X]. constraint c { rule (c X) <=> (print fired). }
-- Query: c X, c Y
-- Moves: 11
use Rattle.std.proofs.Common.{◌≡◌, true, false, [], ◌∷◌, ◌++◌, Some, None, codes, refl}
use Rattle.std.specs.Fmt.{digits}
use Rattle.ref_terms.specs.terms.Term.{App}
use Rattle.ref_terms.specs.terms.Ready.{ready}
use Rattle.ref_terms.specs.unification.Rules.{step}
use Rattle.ref_terms.specs.search.Program.{Program, Query}
use Rattle.ref_terms.proofs.rows.Output.{output}
use Rattle.ref_terms.specs.search.Next.{next}
use Rattle.ref_terms.proofs.Samples.{constant, variable, table, lines}

-- the program
abbrev program : Program
program = record {
  symbols = table ++ codes "c" ∷ codes "fired" ∷ codes "X" ∷ codes "Y" ∷ [];
  preds = record { name = 25; inputs = false ∷ [] } ∷ [];
  clauses = record { variables = 1; head = App (constant 25) (variable 0); body = (Some (App (App (constant 17) (App (constant 25) (variable 0))) (App (App (constant 19) (variable 0)) (constant 18)))) } ∷ [];
  rules = record { names = 25 ∷ []; variables = 1; kept = record { context = None; goal = App (constant 25) (variable 0) } ∷ []; removed = []; pairs = []; tests = []; body_context = None; body = (Some (App (constant 15) (constant 26))) } ∷ [];
}

-- the query
abbrev query : Query
query = record { variables = record { name = 27; shown = true } ∷ record { name = 28; shown = true } ∷ []; goal = App (App (constant 3) (App (constant 25) (variable 0))) (App (constant 25) (variable 1)) }

-- what the run writes
pub row : output program query 11 0 ≡ lines (codes "fired" ∷ codes "fired" ∷ codes "answer 1" ∷ codes "  X = ?0" ∷ codes "  Y = ?1" ∷ codes "  delayed [] [] ?- c ?0" ∷ codes "  delayed [] [] ?- c ?1" ∷ codes "no more" ∷ [])
unfolding step ready next digits
row = refl
