-- Trees as terms, and which trees are well formed.
use Rattle.std.specs.Prelude.{◌≡◌, ℕ, ◌<◌, suc, Bool, true, false, not, ◌&&◌, ◌||◌, List, [], ◌∷◌, ◌++◌, IsTrue}
use Rattle.std.specs.List.{list_all}
use Rattle.ref_terms.specs.terms.Term as term
use Rattle.ref_terms.specs.terms.Term.{Term}
use Rattle.ref_terms.specs.terms.Text.{IsTextBuilt}
use Rattle.ref_terms.specs.declared.tree.Tree.{Tree, fold-Tree}
use Rattle.ref_terms.specs.declared.tree.Head.{Head, fold-Head}
use Rattle.ref_terms.specs.declared.tree.Head.TheOpen.{Head-F, Tree-F}

-- a term with these arguments, as it stands: nothing is contracted
abbrev pub with_arguments : Term → List Term → Term
with_arguments f [] = f
with_arguments f (a ∷ rest) = with_arguments (term.App f a) rest

-- the term of a head, the abstraction in it already seen as a term
abbrev pub head_as_term : Head-F Term Term → Term
head_as_term (Head-F.Con c) = term.At (term.Con c.0)
head_as_term (Head-F.Int z) = term.At (term.Int z)
head_as_term (Head-F.Str s) = term.At (term.Str s.0)
head_as_term (Head-F.Bound i) = term.At (term.Bound i)
head_as_term (Head-F.ClauseVar i) = term.At (term.Var i)
head_as_term (Head-F.Stuck abstraction) = abstraction

-- the term of a tree, the trees in it already seen as terms
abbrev pub tree_as_term : Tree-F Term Term → Term
tree_as_term (Tree-F.Lam body) = term.Lam body
tree_as_term (Tree-F.Ap head arguments) = with_arguments head arguments

-- the term that a tree is, as it stands
abbrev pub as_term : Tree → Term
as_term = fold-Tree Term Term head_as_term tree_as_term

-- the term that a head is
abbrev pub head_term : Head → Term
head_term = fold-Head Term Term head_as_term tree_as_term

-- Whether a tree is an abstraction, and a head a stuck one; and whether all heads in it fit: a stuck one holds an
-- abstraction and has arguments.
pub record Shape : Type 0 where
  pub abstraction : Bool
  pub fits : Bool

-- there are none
abbrev pub are_none : List Shape → Bool
are_none [] = true
are_none (shape ∷ shapes) = false

-- all of them fit
abbrev pub all_fit : List Shape → Bool
all_fit shapes = list_all (λ a. a.fits) shapes

-- the shape of a head, that of the abstraction in it already known
abbrev pub head_shape_at : Head-F Shape Shape → Shape
head_shape_at (Head-F.Stuck body) = record { abstraction = true; fits = body.abstraction && body.fits }
head_shape_at (Head-F.Con c) = record { abstraction = false; fits = true }
head_shape_at (Head-F.Int z) = record { abstraction = false; fits = true }
head_shape_at (Head-F.Str s) = record { abstraction = false; fits = true }
head_shape_at (Head-F.Bound i) = record { abstraction = false; fits = true }
head_shape_at (Head-F.ClauseVar i) = record { abstraction = false; fits = true }

-- the shape of a tree, those of the trees in it already known
abbrev pub shape_at : Tree-F Shape Shape → Shape
shape_at (Tree-F.Lam body) = record { abstraction = true; fits = body.fits }
shape_at (Tree-F.Ap head arguments) =
    record { abstraction = false; fits = head.fits && not (head.abstraction && are_none arguments) && all_fit arguments }

-- the shape of a tree
abbrev pub shape : Tree → Shape
shape = fold-Tree Shape Shape head_shape_at shape_at

-- the shape of a head
abbrev pub head_shape : Head → Shape
head_shape = fold-Head Shape Shape head_shape_at shape_at

-- a head of a well-formed tree: one of so many variables, or a name that one of so many abstractions binds
abbrev pub IsHeadWithin : (variables depth : ℕ) → term.Head → Type 0
IsHeadWithin variables depth (term.Bound i) = i < depth
IsHeadWithin variables depth (term.Var i) = i < variables
IsHeadWithin variables depth (term.Name i) = ⊥
IsHeadWithin variables depth (term.Con c) = Unit {0}
IsHeadWithin variables depth (term.Int z) = Unit {0}
IsHeadWithin variables depth (term.Str s) = Unit {0}

-- so throughout
abbrev pub IsWithin : (variables depth : ℕ) → Term → Type 0
IsWithin variables depth (term.Lam b) = IsWithin variables (suc depth) b
IsWithin variables depth (term.At h) = IsHeadWithin variables depth h
IsWithin variables depth (term.App f a) = IsWithin variables depth f × IsWithin variables depth a

-- A well-formed tree over so many variables, under so many abstractions: each stuck head holds an abstraction and has
-- arguments; and its term is built as those of a text are.
pub record IsFormed (variables depth : ℕ) (tree : Tree) : Type 0 where
  pub fits : IsTrue (shape tree).fits
  pub built : IsTextBuilt (as_term tree)
  pub within : IsWithin variables depth (as_term tree)
