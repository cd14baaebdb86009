-- What stands at the head of a tree, and its arguments.
use Rattle.std.specs.Prelude.{ℕ, List, [], ◌∷◌, Option, Some, None, option_and_then}
use Rattle.ref_terms.specs.declared.tree.Tree.{Tree, out-Tree}
use Rattle.ref_terms.specs.declared.tree.Head.{Head, out-Head}
use Rattle.ref_terms.specs.declared.tree.Head.TheOpen.{Head-F, Tree-F}

-- the head of a layer, where it is no abstraction
abbrev pub head_at : Tree-F Head Tree → Option Head
head_at (Tree-F.Lam body) = None
head_at (Tree-F.Ap head args) = Some head

-- the head of a tree, where it is no abstraction
abbrev pub head_of : Tree → Option Head
head_of t = head_at (out-Tree t)

-- the arguments of a layer; an abstraction has none
abbrev pub args_at : Tree-F Head Tree → List Tree
args_at (Tree-F.Lam body) = []
args_at (Tree-F.Ap head args) = args

-- the arguments of a tree, from the left
abbrev pub args_of : Tree → List Tree
args_of t = args_at (out-Tree t)

-- the number of the constant that a layer of a head is
abbrev pub constant_at : Head-F Head Tree → Option ℕ
constant_at (Head-F.Con c) = Some c.0
constant_at _ = None

-- the number of the constant at the head of a tree
abbrev pub constant_of : Tree → Option ℕ
constant_of t = option_and_then (λ h. constant_at (out-Head h)) (head_of t)

-- the number of the variable that a layer of a head is
abbrev pub variable_at : Head-F Head Tree → Option ℕ
variable_at (Head-F.ClauseVar v) = Some v
variable_at _ = None

-- the head, where there are no arguments
abbrev pub alone_at : Tree-F Head Tree → Option Head
alone_at (Tree-F.Ap head []) = Some head
alone_at _ = None

-- the number of the variable that a tree is, without arguments
abbrev pub variable_of : Tree → Option ℕ
variable_of t = option_and_then (λ h. variable_at (out-Head h)) (alone_at (out-Tree t))
