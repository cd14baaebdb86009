-- The terms that the front end's trees stand for.
use Rattle.std.specs.Prelude.{ℕ, ◌+◌}
use Rattle.ref_terms.specs.terms.Term.{Term, At, Con, Int, Str, Bound, Var}
use Rattle.ref_terms.specs.terms.Eta.{lam}
use Rattle.ref_terms.specs.unification.Spine.{apply_all}
use Rattle.ref_terms.specs.declared.tree.Tree.{Tree, fold-Tree}
use Rattle.ref_terms.specs.declared.tree.Head.{Head, fold-Head}
use Rattle.ref_terms.specs.declared.tree.Head.TheOpen.{Head-F, Tree-F}

-- the term of a head, the abstraction in it already read; a clause's variables are numbered from `next` on
abbrev pub head_term : (next : ℕ) → Head-F Term Term → Term
head_term next (Head-F.Con c) = At (Con c.0)
head_term next (Head-F.Int z) = At (Int z)
head_term next (Head-F.Str s) = At (Str s.0)
head_term next (Head-F.Bound i) = At (Bound i)
head_term next (Head-F.ClauseVar i) = At (Var (next + i))
head_term next (Head-F.Stuck abstraction) = abstraction

-- the term of a tree, the trees in it already read: an abstraction is contracted, arguments are applied one by one
abbrev pub tree_term : Tree-F Term Term → Term
tree_term (Tree-F.Lam body) = lam body
tree_term (Tree-F.Ap head args) = apply_all head args

-- the term that a tree stands for, where its clause's variable i is the variable `next + i`
abbrev pub term_of : (next : ℕ) → Tree → Term
term_of next = fold-Tree Term Term (head_term next) tree_term

-- the same for a head
abbrev pub term_of_head : (next : ℕ) → Head → Term
term_of_head next = fold-Head Term Term (head_term next) tree_term
