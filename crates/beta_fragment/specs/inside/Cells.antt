-- Terms that are kept by their parts.
use Rattle.std.specs.Prelude.{◌≡◌, ℕ, ◌<◌, List, [], ◌∷◌, ◌++◌, length, cond, nat_eq, reverse, Option, Some, None}
use Rattle.ref_terms.specs.terms.Term as term
use Rattle.ref_terms.specs.terms.Term.{Term}
use Rattle.beta_fragment.specs.declared.cells.Cell.{Cell}
use Rattle.beta_fragment.specs.declared.cells.Cell.TheVariants.{Rigid, Bound, Var, Lam, App}
use Rattle.beta_fragment.specs.declared.cells.Cells.TheInside.{Inside}
use Rattle.beta_fragment.specs.HeadForm.{rigid_head}

-- the term with a number, which is how many terms are older
abbrev pub term_at : List Term → ℕ → Term
term_at [] i = term.At (term.Con 0)
term_at (x ∷ older) i = cond (nat_eq (length older) i) x (term_at older i)

-- the term of a cell, over the older ones
abbrev pub cell_term : List Term → Cell → Term
cell_term ts (Rigid h) = term.At (rigid_head h)
cell_term ts (Bound i) = term.At (term.Bound i)
cell_term ts (Var v) = term.At (term.Var v.index)
cell_term ts (Lam b) = term.Lam (term_at ts b)
cell_term ts (App f a) = term.App (term_at ts f) (term_at ts a)

-- the parts of a cell are among so many
abbrev pub HasParts : ℕ → Cell → Type 0
HasParts n (Lam b) = b < n
HasParts n (App f a) = (f < n) × (a < n)
HasParts n _ = Unit {0}

-- no application
abbrev pub IsNoApp : Cell → Type 0
IsNoApp (App f a) = ⊥
IsNoApp _ = Unit {0}

-- the terms of cells, newest first
abbrev pub terms_of : List Cell → List Term
terms_of [] = []
terms_of (c ∷ older) = cell_term (terms_of older) c ∷ terms_of older

-- the parts of each cell are older
abbrev pub AllHaveParts : List Cell → Type 0
AllHaveParts [] = Unit {0}
AllHaveParts (c ∷ older) = HasParts (length older) c × AllHaveParts older

-- the cells newest first, as contracts see them
abbrev pub cells_view : Inside → List Cell
cells_view it = reverse it.cells.items

abbrev pub AreCells : Inside → Type 0
AreCells it = AllHaveParts (reverse it.cells.items)

-- terms were added
abbrev pub Gains : List Term → List Term → Type 0
Gains old new = (more : List Term) × (new ≡ more ++ old)

-- the term is there
pub record IsKept (ts : List Term) (i : ℕ) (u : Term) : Type 0 where
  pub there : i < length ts
  pub term : term_at ts i ≡ u

-- the term is there, if there is one
abbrev pub IsKeptIfAny : List Term → Option ℕ → Option Term → Type 0
IsKeptIfAny ts (Some i) (Some u) = IsKept ts i u
IsKeptIfAny ts None None = Unit {0}
IsKeptIfAny ts _ _ = ⊥
