-- The terms of the front end's trees, form by form.
use Rattle.std.proofs.Common.{ℕ, ◌+◌, ℤ, List, map, ◌≡◌, ◌∙◌, ap, sym}
use Rattle.ref_terms.specs.terms.Term.{Term, At, Con as Constant, Int as Integer, Str as Text, Bound as BoundName, Var}
use Rattle.ref_terms.specs.terms.Eta.{lam}
use Rattle.ref_terms.specs.unification.Spine.{apply_all}
use Rattle.ref_terms.specs.declared.tree.Tree.{Tree, fold-roll-Tree}
use Rattle.ref_terms.specs.declared.tree.Tree.TheVariants.{Lam, Ap, rolls-Lam, rolls-Ap}
use Rattle.ref_terms.specs.declared.tree.Head.{Head, fold-roll-Head}
use Rattle.ref_terms.specs.declared.tree.Head.TheVariants.{Con, Int, Str, Bound, ClauseVar, Stuck, rolls-Con, rolls-Int, rolls-Str, rolls-Bound, rolls-ClauseVar, rolls-Stuck}
use Rattle.ref_terms.specs.declared.tree.Head.TheOpen.{Head-F, Tree-F}
use Rattle.ref_terms.specs.search.Front.{term_of, term_of_head, head_term, tree_term}
use Rattle.ref_terms.specs.declared.sym.Sym.{Sym}

-- an abstraction
pub term-lam : (next : ℕ) (body : Tree) → term_of next (Lam body) ≡ lam (term_of next body)
term-lam next body = ap (term_of next) (sym (rolls-Lam body)) ∙ fold-roll-Tree Term Term (head_term next) tree_term (Tree-F.Lam body)

-- a head with its arguments
pub term-ap : (next : ℕ) (head : Head) (args : List Tree) → term_of next (Ap head args) ≡ apply_all (term_of_head next head) (map (term_of next) args)
term-ap next head args = ap (term_of next) (sym (rolls-Ap head args)) ∙ fold-roll-Tree Term Term (head_term next) tree_term (Tree-F.Ap head args)

-- a constant
pub head-con : (next : ℕ) (c : Sym) → term_of_head next (Con c) ≡ At (Constant c.0)
head-con next c = ap (term_of_head next) (sym (rolls-Con c)) ∙ fold-roll-Head Term Term (head_term next) tree_term (Head-F.Con c)

-- an integer
pub head-int : (next : ℕ) (z : ℤ) → term_of_head next (Int z) ≡ At (Integer z)
head-int next z = ap (term_of_head next) (sym (rolls-Int z)) ∙ fold-roll-Head Term Term (head_term next) tree_term (Head-F.Int z)

-- a string
pub head-str : (next : ℕ) (s : Sym) → term_of_head next (Str s) ≡ At (Text s.0)
head-str next s = ap (term_of_head next) (sym (rolls-Str s)) ∙ fold-roll-Head Term Term (head_term next) tree_term (Head-F.Str s)

-- a bound name
pub head-bound : (next i : ℕ) → term_of_head next (Bound i) ≡ At (BoundName i)
head-bound next i = ap (term_of_head next) (sym (rolls-Bound i)) ∙ fold-roll-Head Term Term (head_term next) tree_term (Head-F.Bound i)

-- a variable of the clause
pub head-variable : (next i : ℕ) → term_of_head next (ClauseVar i) ≡ At (Var (next + i))
head-variable next i = ap (term_of_head next) (sym (rolls-ClauseVar i)) ∙ fold-roll-Head Term Term (head_term next) tree_term (Head-F.ClauseVar i)

-- a stuck abstraction
pub head-stuck : (next : ℕ) (abstraction : Tree) → term_of_head next (Stuck abstraction) ≡ term_of next abstraction
head-stuck next abstraction = ap (term_of_head next) (sym (rolls-Stuck abstraction)) ∙ fold-roll-Head Term Term (head_term next) tree_term (Head-F.Stuck abstraction)
