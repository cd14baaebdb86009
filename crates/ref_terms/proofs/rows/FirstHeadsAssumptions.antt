-- Program: pred h o:t. pred c o:t. c X :- declare_constraint (c X) [X]. constraint c h { rule \ (G ?- c X) (D ?- c Y) <=> (h Z, print Z). }
-- Query: (h a => c X), (h b => c Y)
-- Moves: 13
use Rattle.std.proofs.Common.{◌≡◌, true, false, [], ◌∷◌, ◌++◌, Some, None, codes, refl}
use Rattle.std.specs.Fmt.{digits}
use Rattle.ref_terms.specs.terms.Term.{App}
use Rattle.ref_terms.specs.terms.Ready.{ready}
use Rattle.ref_terms.specs.unification.Rules.{step}
use Rattle.ref_terms.specs.search.Program.{Program, Query}
use Rattle.ref_terms.proofs.rows.Output.{output}
use Rattle.ref_terms.specs.search.Next.{next}
use Rattle.ref_terms.proofs.Samples.{constant, variable, table, lines}

-- the program
abbrev program : Program
program = record {
  symbols = table ++ codes "h" ∷ codes "c" ∷ codes "a" ∷ codes "b" ∷ codes "X" ∷ codes "Y" ∷ [];
  preds = record { name = 25; inputs = false ∷ [] } ∷ record { name = 26; inputs = false ∷ [] } ∷ [];
  clauses = record { variables = 1; head = App (constant 26) (variable 0); body = (Some (App (App (constant 17) (App (constant 26) (variable 0))) (App (App (constant 19) (variable 0)) (constant 18)))) } ∷ [];
  rules = record { names = 26 ∷ 25 ∷ []; variables = 5; kept = []; removed = record { context = (Some 0); goal = App (constant 26) (variable 1) } ∷ record { context = (Some 2); goal = App (constant 26) (variable 3) } ∷ []; pairs = []; tests = []; body_context = None; body = (Some (App (App (constant 3) (App (constant 25) (variable 4))) (App (constant 15) (variable 4)))) } ∷ [];
}

-- the query
abbrev query : Query
query = record { variables = record { name = 29; shown = true } ∷ record { name = 30; shown = true } ∷ []; goal = App (App (constant 3) (App (App (constant 5) (App (constant 25) (constant 27))) (App (constant 26) (variable 0)))) (App (App (constant 5) (App (constant 25) (constant 28))) (App (constant 26) (variable 1))) }

-- what the run writes
pub row : output program query 13 0 ≡ lines (codes "a" ∷ codes "answer 1" ∷ codes "  X = ?0" ∷ codes "  Y = ?1" ∷ codes "no more" ∷ [])
unfolding step ready next digits
row = refl
