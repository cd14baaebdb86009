-- Program: pred of o:term, o:term. of X T :- declare_constraint (of X T) [X]. constraint of { rule \ (G ?- of X T) <=> (print G). }
-- Query: pi x\ of x nat => of H T
-- Moves: 8
use Rattle.std.proofs.Common.{◌≡◌, true, false, [], ◌∷◌, ◌++◌, Some, None, codes, refl}
use Rattle.std.specs.Fmt.{digits}
use Rattle.ref_terms.specs.terms.Term.{Lam, App}
use Rattle.ref_terms.specs.terms.Ready.{ready}
use Rattle.ref_terms.specs.unification.Rules.{step}
use Rattle.ref_terms.specs.search.Program.{Program, Query}
use Rattle.ref_terms.proofs.rows.Output.{output}
use Rattle.ref_terms.specs.search.Next.{next}
use Rattle.ref_terms.proofs.Samples.{constant, variable, bound, table, lines}

-- the program
abbrev program : Program
program = record {
  symbols = table ++ codes "of" ∷ codes "nat" ∷ codes "H" ∷ codes "T" ∷ [];
  preds = record { name = 25; inputs = false ∷ false ∷ [] } ∷ [];
  clauses = record { variables = 2; head = App (App (constant 25) (variable 0)) (variable 1); body = (Some (App (App (constant 17) (App (App (constant 25) (variable 0)) (variable 1))) (App (App (constant 19) (variable 0)) (constant 18)))) } ∷ [];
  rules = record { names = 25 ∷ []; variables = 3; kept = []; removed = record { context = (Some 0); goal = App (App (constant 25) (variable 1)) (variable 2) } ∷ []; pairs = []; tests = []; body_context = None; body = (Some (App (constant 15) (variable 0))) } ∷ [];
}

-- the query
abbrev query : Query
query = record { variables = record { name = 27; shown = true } ∷ record { name = 28; shown = true } ∷ []; goal = App (constant 7) (Lam (App (App (constant 5) (App (App (constant 25) (bound 0)) (constant 26))) (App (App (constant 25) (variable 0)) (variable 1)))) }

-- what the run writes
pub row : output program query 8 0 ≡ lines (codes "(of #0 nat) :: []" ∷ codes "answer 1" ∷ codes "  H = ?0" ∷ codes "  T = ?1" ∷ codes "no more" ∷ [])
unfolding step ready next digits
row = refl
