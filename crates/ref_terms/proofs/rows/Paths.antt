-- The choices that led to answers, as lines.
use Rattle.std.proofs.Common.{◌≡◌, false, ℕ, [], ◌∷◌, ◌++◌, Some, None, codes, refl}
use Rattle.std.specs.Fmt.{digits}
use Rattle.ref_terms.specs.terms.Term.{Term, App}
use Rattle.ref_terms.specs.terms.Ready.{ready}
use Rattle.ref_terms.specs.unification.Rules.{step}
use Rattle.ref_terms.specs.search.Program.{Program}
use Rattle.ref_terms.specs.search.Next.{next}
use Rattle.ref_terms.proofs.Samples.{constant, variable, table, lines}
use Rattle.ref_terms.proofs.rows.Output.{paths}

-- p a. p b. q :- r a. With r declared.
abbrev program : Program
program = record {
  symbols = table ++ codes "p" ∷ codes "a" ∷ codes "b" ∷ codes "q" ∷ codes "r" ∷ [];
  preds = record { name = 29; inputs = false ∷ [] } ∷ [];
  clauses = record { variables = 0; head = App (constant 25) (constant 26); body = None } ∷ record { variables = 0; head = App (constant 25) (constant 27); body = None }
      ∷ record { variables = 0; head = constant 28; body = Some (App (constant 29) (constant 26)) } ∷ [];
  rules = [];
}

-- a constant applied to two terms
abbrev two : ℕ → Term → Term → Term
two c a b = App (App (constant c) a) b

-- `p X`: the clauses are counted from 0 in the text
pub clauses : paths program (record { variables = record { name = 25; shown = false } ∷ []; goal = App (constant 25) (variable 0) }) 10 ≡ lines (codes "path c0" ∷ codes "path c1" ∷ [])
unfolding step ready next digits
clauses = refl

-- `r a => (q , r a)`: hypothetical clauses are counted from 0 in the order in which they are tried
pub assumptions : paths program (record { variables = []; goal = two 5 (App (constant 29) (constant 26)) (two 3 (constant 28) (App (constant 29) (constant 26))) }) 10 ≡ lines (codes "path c2 h0 h0" ∷ [])
unfolding step ready next digits
assumptions = refl

-- `(r b , r a) => r a`: the right part of an assumption is tried after its left part
pub second_assumption : paths program (record { variables = []; goal = two 5 (two 3 (App (constant 29) (constant 27)) (App (constant 29) (constant 26))) (App (constant 29) (constant 26)) }) 10 ≡ lines (codes "path h1" ∷ [])
unfolding step ready next digits
second_assumption = refl

-- `true ; true`: both sides
pub sides : paths program (record { variables = []; goal = two 4 (constant 0) (constant 0) }) 10 ≡ lines (codes "path l" ∷ codes "path r" ∷ [])
unfolding step ready next digits
sides = refl
