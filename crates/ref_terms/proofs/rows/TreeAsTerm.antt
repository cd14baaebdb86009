-- A tree of the front end and its term: `q (x\ f (Y x)) 3` with the variable Y, numbered from 7 on.
use Rattle.std.proofs.Common.{◌≡◌, [], ◌∷◌, pos, refl}
use Rattle.ref_terms.specs.declared.tree.Tree.{Tree}
use Rattle.ref_terms.specs.declared.tree.Tree.TheVariants.{Lam as Abstraction, Ap}
use Rattle.ref_terms.specs.declared.tree.Head.TheVariants.{Con, Int, Bound, ClauseVar}
use Rattle.ref_terms.specs.terms.Term.{Lam, App}
use Rattle.ref_terms.specs.search.Front.{term_of}
use Rattle.ref_terms.proofs.Front.{term-ap, term-lam, head-con, head-int, head-bound, head-variable}
use Rattle.ref_terms.proofs.Samples.{constant, variable, bound, integer}

-- the bound name x
abbrev name : Tree
name = Ap (Bound 0) []

-- `x\ f (Y x)`
abbrev abstraction : Tree
abstraction = Abstraction (Ap (Con (record { 0 = 26 })) (Ap (ClauseVar 0) (name ∷ []) ∷ []))

-- the tree
abbrev tree : Tree
tree = Ap (Con (record { 0 = 25 })) (abstraction ∷ Ap (Int (pos 3)) [] ∷ [])

-- its term
pub term : term_of 7 tree ≡ App (App (constant 25) (Lam (App (constant 26) (App (variable 7) (bound 0))))) (integer 3)
term = simp (term-ap, term-lam, head-con, head-int, head-bound, head-variable) refl
