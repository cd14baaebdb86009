-- Program: the elaborator, and a countdown from 20 that opens a choice point at each level
-- Query: main T
-- Moves: 226
use Rattle.std.proofs.Common.{◌≡◌, true, false, [], ◌∷◌, ◌++◌, Some, None, codes, refl}
use Rattle.std.specs.Fmt.{digits}
use Rattle.ref_terms.specs.terms.Term.{Lam, App}
use Rattle.ref_terms.specs.terms.Ready.{ready}
use Rattle.ref_terms.specs.unification.Rules.{step}
use Rattle.ref_terms.specs.search.Program.{Program, Query}
use Rattle.ref_terms.proofs.rows.Output.{output}
use Rattle.ref_terms.specs.search.Next.{next}
use Rattle.ref_terms.proofs.Samples.{constant, variable, bound, integer, table, lines}

-- the program
abbrev program : Program
program = record {
  symbols = table ++ codes "of" ∷ codes "demo" ∷ codes "pick" ∷ codes "down" ∷ codes "main" ∷ codes "nat" ∷ codes "set" ∷ codes "z" ∷ codes "s" ∷ codes "prod" ∷ codes "id" ∷ codes "app" ∷ codes "lam" ∷ codes "red" ∷ codes "blue" ∷ codes "T" ∷ [];
  preds = record { name = 25; inputs = true ∷ false ∷ [] } ∷ record { name = 26; inputs = false ∷ [] } ∷ record { name = 27; inputs = false ∷ [] } ∷ record { name = 28; inputs = true ∷ false ∷ [] } ∷ record { name = 29; inputs = false ∷ [] } ∷ [];
  clauses = record { variables = 2; head = App (App (constant 25) (variable 0)) (variable 1); body = (Some (App (App (constant 3) (App (constant 11) (variable 0))) (App (App (constant 3) (constant 2)) (App (App (constant 17) (App (App (constant 25) (variable 0)) (variable 1))) (App (App (constant 19) (variable 0)) (constant 18)))))) } ∷ record { variables = 0; head = App (App (constant 25) (constant 30)) (constant 31); body = None } ∷ record { variables = 0; head = App (App (constant 25) (constant 32)) (constant 30); body = None } ∷ record { variables = 0; head = App (App (constant 25) (constant 33)) (App (App (constant 34) (constant 30)) (Lam (constant 30))); body = None } ∷ record { variables = 0; head = App (App (constant 25) (constant 35)) (App (App (constant 34) (constant 31)) (Lam (App (App (constant 34) (bound 0)) (Lam (bound 1))))); body = None } ∷ record { variables = 5; head = App (App (constant 25) (App (App (constant 36) (variable 0)) (variable 1))) (variable 2); body = (Some (App (App (constant 3) (App (App (constant 25) (variable 0)) (App (App (constant 34) (variable 3)) (variable 4)))) (App (App (constant 3) (App (App (constant 25) (variable 1)) (variable 3))) (App (App (App (constant 16) (variable 4)) (variable 1)) (variable 2))))) } ∷ record { variables = 3; head = App (App (constant 25) (App (App (constant 37) (variable 0)) (variable 1))) (App (App (constant 34) (variable 0)) (variable 2)); body = (Some (App (App (constant 3) (App (App (constant 25) (variable 0)) (constant 31))) (App (constant 7) (Lam (App (App (constant 5) (App (App (constant 25) (bound 0)) (variable 0))) (App (App (constant 25) (App (variable 1) (bound 0))) (App (variable 2) (bound 0)))))))) } ∷ record { variables = 2; head = App (App (constant 25) (App (App (constant 34) (variable 0)) (variable 1))) (constant 31); body = (Some (App (App (constant 3) (App (App (constant 25) (variable 0)) (constant 31))) (App (constant 7) (Lam (App (App (constant 5) (App (App (constant 25) (bound 0)) (variable 0))) (App (App (constant 25) (App (variable 1) (bound 0))) (constant 31))))))) } ∷ record { variables = 5; head = App (constant 26) (variable 0); body = (Some (App (App (constant 3) (App (App (constant 9) (variable 0)) (App (App (constant 36) (App (App (constant 36) (constant 35)) (variable 1))) (App (App (constant 36) (constant 33)) (App (App (constant 36) (App (App (constant 36) (constant 35)) (variable 2))) (variable 3)))))) (App (App (constant 3) (App (App (constant 25) (variable 0)) (variable 4))) (App (constant 15) (variable 4))))) } ∷ record { variables = 0; head = App (constant 27) (constant 38); body = None } ∷ record { variables = 0; head = App (constant 27) (constant 39); body = None } ∷ record { variables = 0; head = App (App (constant 28) (integer 0)) (constant 32); body = None } ∷ record { variables = 4; head = App (App (constant 28) (variable 0)) (App (constant 33) (variable 1)); body = (Some (App (App (constant 3) (App (App (constant 14) (integer 0)) (variable 0))) (App (App (constant 3) (App (App (constant 13) (variable 2)) (App (App (constant 21) (variable 0)) (integer 1)))) (App (App (constant 3) (App (constant 27) (variable 3))) (App (App (constant 28) (variable 2)) (variable 1)))))) } ∷ record { variables = 2; head = App (constant 29) (variable 0); body = (Some (App (App (constant 3) (App (App (constant 28) (integer 20)) (variable 1))) (App (App (constant 3) (App (constant 15) (integer 20))) (App (constant 26) (variable 0))))) } ∷ [];
  rules = record { names = 25 ∷ []; variables = 6; kept = record { context = (Some 0); goal = App (App (constant 25) (variable 1)) (variable 2) } ∷ []; removed = record { context = (Some 3); goal = App (App (constant 25) (variable 4)) (variable 5) } ∷ []; pairs = record { left_head = 0; left_arg = 0; right_head = 1; right_arg = 0 } ∷ []; tests = []; body_context = None; body = (Some (App (App (constant 9) (variable 2)) (variable 5))) } ∷ [];
}

-- the query
abbrev query : Query
query = record { variables = record { name = 40; shown = true } ∷ []; goal = App (constant 29) (variable 0) }

-- what the run writes
pub row : output program query 226 1 ≡ lines (codes "20" ∷ codes "nat" ∷ codes "answer 1" ∷ codes "  T = app (app id nat) (app s (app (app id nat) ?0))" ∷ codes "  delayed [] [] ?- of ?0 nat" ∷ codes "stopped" ∷ [])
unfolding step ready next digits
row = refl
