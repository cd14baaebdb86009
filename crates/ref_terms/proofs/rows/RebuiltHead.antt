-- Program: pred p o:t. p ((x\ f (X x)) b).
-- Query: p Y
-- Moves: 3
use Rattle.std.proofs.Common.{◌≡◌, false, true, [], ◌∷◌, ◌++◌, None, codes, refl, ap, ◌∙◌}
use Rattle.std.specs.Fmt.{digits}
use Rattle.ref_terms.specs.declared.tree.Tree.{Tree}
use Rattle.ref_terms.specs.declared.tree.Tree.TheVariants.{Lam as Abstraction, Ap}
use Rattle.ref_terms.specs.declared.tree.Head.TheVariants.{Con, Bound, ClauseVar, Stuck}
use Rattle.ref_terms.specs.terms.Term.{Term, App}
use Rattle.ref_terms.specs.terms.Ready.{ready}
use Rattle.ref_terms.specs.unification.Rules.{step}
use Rattle.ref_terms.specs.search.Front.{term_of}
use Rattle.ref_terms.specs.search.Program.{Program, Query}
use Rattle.ref_terms.proofs.rows.Output.{output}
use Rattle.ref_terms.specs.search.Next.{next}
use Rattle.ref_terms.proofs.Front.{term-ap, term-lam, head-con, head-bound, head-variable, head-stuck}
use Rattle.ref_terms.proofs.Samples.{constant, variable, table, lines}

-- `x\ f (X x)`, in which X has a bound name as its argument
abbrev abstraction : Tree
abstraction = Abstraction (Ap (Con (record { 0 = 26 })) (Ap (ClauseVar 0) (Ap (Bound 0) [] ∷ []) ∷ []))

-- the head as it is read: the abstraction is stuck before `b`
abbrev head : Tree
head = Ap (Con (record { 0 = 25 })) (Ap (Stuck abstraction) (Ap (Con (record { 0 = 27 })) [] ∷ []) ∷ [])

-- the head as it is searched with: `p (f (X b))`
abbrev rebuilt : Term
rebuilt = App (constant 25) (App (constant 26) (App (variable 0) (constant 27)))

pub term : term_of 0 head ≡ rebuilt
unfolding ready
term = simp (term-ap, term-lam, head-con, head-bound, head-variable, head-stuck) refl

-- the program with this head
abbrev program : Term → Program
program t = record {
  symbols = table ++ codes "p" ∷ codes "f" ∷ codes "b" ∷ codes "Y" ∷ [];
  preds = record { name = 25; inputs = false ∷ [] } ∷ [];
  clauses = record { variables = 1; head = t; body = None } ∷ [];
  rules = [];
}

-- the query
abbrev query : Query
query = record { variables = record { name = 28; shown = true } ∷ []; goal = App (constant 25) (variable 0) }

-- what the run writes
written : output (program rebuilt) query 3 0 ≡ lines (codes "answer 1" ∷ codes "  Y = f (?0 b)" ∷ codes "no more" ∷ [])
unfolding step ready next digits
written = refl

pub row : output (program (term_of 0 head)) query 3 0 ≡ lines (codes "answer 1" ∷ codes "  Y = f (?0 b)" ∷ codes "no more" ∷ [])
row = ap (λ (t : Term). output (program t) query 3 0) term ∙ written
