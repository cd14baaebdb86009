-- Program: pred of o:term, o:term. of X T :- declare_constraint (of X T) [X]. constraint of { rule (of X T1) \ (of Y T2) | same X Y <=> (T1 = T2). }
-- Query: (pi x\ of (H x) (A x)), (pi y\ of (H y) nat)
-- Moves: 9
use Rattle.std.proofs.Common.{◌≡◌, true, false, [], ◌∷◌, ◌++◌, Some, None, codes, refl}
use Rattle.std.specs.Fmt.{digits}
use Rattle.ref_terms.specs.terms.Term.{Lam, App}
use Rattle.ref_terms.specs.terms.Ready.{ready}
use Rattle.ref_terms.specs.unification.Rules.{step}
use Rattle.ref_terms.specs.search.Program.{Program, Query}
use Rattle.ref_terms.proofs.rows.Output.{output}
use Rattle.ref_terms.specs.search.Next.{next}
use Rattle.ref_terms.proofs.Samples.{constant, variable, bound, table, lines}

-- the program
abbrev program : Program
program = record {
  symbols = table ++ codes "of" ∷ codes "nat" ∷ codes "H" ∷ codes "A" ∷ [];
  preds = record { name = 25; inputs = false ∷ false ∷ [] } ∷ [];
  clauses = record { variables = 2; head = App (App (constant 25) (variable 0)) (variable 1); body = (Some (App (App (constant 17) (App (App (constant 25) (variable 0)) (variable 1))) (App (App (constant 19) (variable 0)) (constant 18)))) } ∷ [];
  rules = record { names = 25 ∷ []; variables = 4; kept = record { context = None; goal = App (App (constant 25) (variable 0)) (variable 1) } ∷ []; removed = record { context = None; goal = App (App (constant 25) (variable 2)) (variable 3) } ∷ []; pairs = []; tests = (App (App (constant 10) (variable 0)) (variable 2)) ∷ []; body_context = None; body = (Some (App (App (constant 9) (variable 1)) (variable 3))) } ∷ [];
}

-- the query
abbrev query : Query
query = record { variables = record { name = 27; shown = true } ∷ record { name = 28; shown = true } ∷ []; goal = App (App (constant 3) (App (constant 7) (Lam (App (App (constant 25) (App (variable 0) (bound 0))) (App (variable 1) (bound 0)))))) (App (constant 7) (Lam (App (App (constant 25) (App (variable 0) (bound 0))) (constant 26)))) }

-- what the run writes
pub row : output program query 9 0 ≡ lines (codes "answer 1" ∷ codes "  H = ?0" ∷ codes "  A = ?1" ∷ codes "  delayed [#0] [] ?- of (?0 #0) (?1 #0)" ∷ codes "  delayed [#0] [] ?- of (?0 #0) nat" ∷ codes "no more" ∷ [])
unfolding step ready next digits
row = refl
