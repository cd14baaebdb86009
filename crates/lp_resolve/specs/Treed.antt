-- The tree of a term.
use Rattle.std.specs.Prelude.{List, [], ◌∷◌}
use Rattle.ref_terms.specs.terms.Term as term
use Rattle.ref_terms.specs.terms.Term.{Term}
use Rattle.ref_terms.specs.declared.tree.Tree.{Tree}
use Rattle.ref_terms.specs.declared.tree.Tree.TheVariants.{Lam, Ap}
use Rattle.ref_terms.specs.declared.tree.Head.{Head}
use Rattle.ref_terms.specs.declared.tree.Head.TheVariants.{Con, Int, Str, Bound, ClauseVar, Stuck}

-- the head of a tree; a name, which no text has, isn't told from the bound name of its number
abbrev pub head_of : term.Head → Head
head_of (term.Con c) = Con (record { 0 = c })
head_of (term.Int z) = Int z
head_of (term.Str s) = Str (record { 0 = s })
head_of (term.Name n) = Bound n
head_of (term.Bound i) = Bound i
head_of (term.Var v) = ClauseVar v

-- the tree that is the term as it stands, before more arguments; an abstraction is stuck before them
abbrev pub tree_before : (arguments : List Tree) → Term → Tree
tree_before arguments (term.App f a) = tree_before (tree_before [] a ∷ arguments) f
tree_before arguments (term.At h) = Ap (head_of h) arguments
tree_before [] (term.Lam b) = Lam (tree_before [] b)
tree_before (a ∷ arguments) (term.Lam b) = Ap (Stuck (Lam (tree_before [] b))) (a ∷ arguments)

-- the tree that is the term as it stands
abbrev pub tree_of : Term → Tree
tree_of t = tree_before [] t
