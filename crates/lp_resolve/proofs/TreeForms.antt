-- Trees as terms, and their shapes, form by form.
use Rattle.std.proofs.Common.{◌≡◌, ◌∙◌, ℕ, ℤ, Bool, true, false, not, ◌&&◌, List, map, ap, sym, refl}
use Rattle.std.specs.List.{list_all}
use Rattle.ref_terms.specs.terms.Term as term
use Rattle.ref_terms.specs.terms.Term.{Term}
use Rattle.ref_terms.specs.declared.sym.Sym.{Sym}
use Rattle.ref_terms.specs.declared.tree.Tree.{Tree, fold-roll-Tree}
use Rattle.ref_terms.specs.declared.tree.Tree.TheVariants.{Lam, Ap, rolls-Lam, rolls-Ap}
use Rattle.ref_terms.specs.declared.tree.Head.{Head, fold-roll-Head}
use Rattle.ref_terms.specs.declared.tree.Head.TheVariants.{Con, Int, Str, Bound, ClauseVar, Stuck, rolls-Con, rolls-Int, rolls-Str, rolls-Bound, rolls-ClauseVar, rolls-Stuck}
use Rattle.ref_terms.specs.declared.tree.Head.TheOpen.{Head-F, Tree-F}
use Rattle.lp_resolve.specs.Trees.{as_term, head_term, head_as_term, tree_as_term, with_arguments, Shape, shape, head_shape, shape_at, head_shape_at, are_none}

-- an abstraction
pub term-lam : (body : Tree) → as_term (Lam body) ≡ term.Lam (as_term body)
term-lam body = ap as_term (sym (rolls-Lam body)) ∙ fold-roll-Tree Term Term head_as_term tree_as_term (Tree-F.Lam body)

-- a head with its arguments
pub term-ap : (head : Head) (arguments : List Tree) → as_term (Ap head arguments) ≡ with_arguments (head_term head) (map as_term arguments)
term-ap head arguments = ap as_term (sym (rolls-Ap head arguments)) ∙ fold-roll-Tree Term Term head_as_term tree_as_term (Tree-F.Ap head arguments)

-- a constant
pub term-con : (c : Sym) → head_term (Con c) ≡ term.At (term.Con c.0)
term-con c = ap head_term (sym (rolls-Con c)) ∙ fold-roll-Head Term Term head_as_term tree_as_term (Head-F.Con c)

-- an integer
pub term-int : (z : ℤ) → head_term (Int z) ≡ term.At (term.Int z)
term-int z = ap head_term (sym (rolls-Int z)) ∙ fold-roll-Head Term Term head_as_term tree_as_term (Head-F.Int z)

-- a string
pub term-str : (s : Sym) → head_term (Str s) ≡ term.At (term.Str s.0)
term-str s = ap head_term (sym (rolls-Str s)) ∙ fold-roll-Head Term Term head_as_term tree_as_term (Head-F.Str s)

-- a bound name
pub term-bound : (i : ℕ) → head_term (Bound i) ≡ term.At (term.Bound i)
term-bound i = ap head_term (sym (rolls-Bound i)) ∙ fold-roll-Head Term Term head_as_term tree_as_term (Head-F.Bound i)

-- a variable
pub term-variable : (i : ℕ) → head_term (ClauseVar i) ≡ term.At (term.Var i)
term-variable i = ap head_term (sym (rolls-ClauseVar i)) ∙ fold-roll-Head Term Term head_as_term tree_as_term (Head-F.ClauseVar i)

-- a stuck abstraction
pub term-stuck : (abstraction : Tree) → head_term (Stuck abstraction) ≡ as_term abstraction
term-stuck abstraction = ap head_term (sym (rolls-Stuck abstraction)) ∙ fold-roll-Head Term Term head_as_term tree_as_term (Head-F.Stuck abstraction)

-- an abstraction's shape
pub shape-lam : (body : Tree) → shape (Lam body) ≡ record { abstraction = true; fits = (shape body).fits }
shape-lam body = ap shape (sym (rolls-Lam body)) ∙ fold-roll-Tree Shape Shape head_shape_at shape_at (Tree-F.Lam body)

-- that of a head with its arguments
pub shape-ap : (head : Head) (arguments : List Tree) → shape (Ap head arguments) ≡ shape_at (Tree-F.Ap (head_shape head) (map shape arguments))
shape-ap head arguments = ap shape (sym (rolls-Ap head arguments)) ∙ fold-roll-Tree Shape Shape head_shape_at shape_at (Tree-F.Ap head arguments)

-- a head that isn't stuck
abbrev pub plain : Shape
plain = record { abstraction = false; fits = true }

-- a constant
pub shape-con : (c : Sym) → head_shape (Con c) ≡ plain
shape-con c = ap head_shape (sym (rolls-Con c)) ∙ fold-roll-Head Shape Shape head_shape_at shape_at (Head-F.Con c)

-- an integer
pub shape-int : (z : ℤ) → head_shape (Int z) ≡ plain
shape-int z = ap head_shape (sym (rolls-Int z)) ∙ fold-roll-Head Shape Shape head_shape_at shape_at (Head-F.Int z)

-- a string
pub shape-str : (s : Sym) → head_shape (Str s) ≡ plain
shape-str s = ap head_shape (sym (rolls-Str s)) ∙ fold-roll-Head Shape Shape head_shape_at shape_at (Head-F.Str s)

-- a bound name
pub shape-bound : (i : ℕ) → head_shape (Bound i) ≡ plain
shape-bound i = ap head_shape (sym (rolls-Bound i)) ∙ fold-roll-Head Shape Shape head_shape_at shape_at (Head-F.Bound i)

-- a variable
pub shape-variable : (i : ℕ) → head_shape (ClauseVar i) ≡ plain
shape-variable i = ap head_shape (sym (rolls-ClauseVar i)) ∙ fold-roll-Head Shape Shape head_shape_at shape_at (Head-F.ClauseVar i)

-- a stuck abstraction
pub shape-stuck : (abstraction : Tree) → head_shape (Stuck abstraction) ≡ record { abstraction = true; fits = (shape abstraction).abstraction && (shape abstraction).fits }
shape-stuck abstraction = ap head_shape (sym (rolls-Stuck abstraction)) ∙ fold-roll-Head Shape Shape head_shape_at shape_at (Head-F.Stuck abstraction)
