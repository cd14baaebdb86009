-- Program: empty
-- Query: (pi x\ sigma Y\ X x = f Y), (pi y\ X y = f Z)
-- Moves: 8
use Rattle.std.proofs.Common.{◌≡◌, true, [], ◌∷◌, ◌++◌, codes, refl}
use Rattle.std.specs.Fmt.{digits}
use Rattle.ref_terms.specs.terms.Term.{Lam, App}
use Rattle.ref_terms.specs.terms.Ready.{ready}
use Rattle.ref_terms.specs.unification.Rules.{step}
use Rattle.ref_terms.specs.search.Program.{Program, Query}
use Rattle.ref_terms.proofs.rows.Output.{output}
use Rattle.ref_terms.specs.search.Next.{next}
use Rattle.ref_terms.proofs.Samples.{constant, variable, bound, table, lines}

-- the program
abbrev program : Program
program = record {
  symbols = table ++ codes "f" ∷ codes "X" ∷ codes "Z" ∷ [];
  preds = [];
  clauses = [];
  rules = [];
}

-- the query
abbrev query : Query
query = record { variables = record { name = 26; shown = true } ∷ record { name = 27; shown = true } ∷ []; goal = App (App (constant 3) (App (constant 7) (Lam (App (constant 8) (Lam (App (App (constant 9) (App (variable 0) (bound 1))) (App (constant 25) (bound 0)))))))) (App (constant 7) (Lam (App (App (constant 9) (App (variable 0) (bound 0))) (App (constant 25) (variable 1))))) }

-- what the run writes
pub row : output program query 8 0 ≡ lines (codes "answer 1" ∷ codes "  X = @0\\ f ?0" ∷ codes "  Z = ?0" ∷ codes "no more" ∷ [])
unfolding step ready next digits
row = refl
