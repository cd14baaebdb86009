-- Well-formed trees: more variables, and the parts of a clause.
use Rattle.std.proofs.Common.{◌≡◌, ◌∙◌, ℕ, ◌+◌, ◌<◌, ◌≤◌, suc, Bool, true, false, ◌&&◌, not, List, [], ◌∷◌, length, map, Option, Some, None, IfSome, IsTrue, ap, sym, subst, refl, arith}
use Rattle.std.specs.List.{list_all}
use Rattle.ref_terms.specs.terms.Term as term
use Rattle.ref_terms.specs.terms.Term.{Term}
use Rattle.ref_terms.specs.terms.Text.{IsTextBuilt}
use Rattle.ref_terms.specs.declared.tree.Tree.{Tree, out-Tree, roll-Tree, roll-out-Tree}
use Rattle.ref_terms.specs.declared.tree.Tree.TheVariants.{Ap, rolls-Ap}
use Rattle.ref_terms.specs.declared.tree.Head.{Head}
use Rattle.ref_terms.specs.declared.tree.Head.TheOpen.{Tree-F}
use Rattle.lp_resolve.specs.Heads.{args_at, args_of}
use Rattle.lp_resolve.specs.Occurrences.{occurrences}
use Rattle.lp_resolve.specs.ProgramReading.{parted, is_implication, head_and_body}
use Rattle.lp_resolve.specs.Trees.{as_term, shape, head_shape, shape_at, IsHeadWithin, IsWithin, IsFormed}
use Rattle.lp_resolve.proofs.TreeForms.{term-ap, shape-ap}
use Rattle.lp_resolve.proofs.OccurrenceLemmas.{length-occurrences-ap}

-- a head stays within more variables
head_within-more : (m n d : ℕ) → m ≤ n → (h : term.Head) → IsHeadWithin m d h → IsHeadWithin n d h
head_within-more m n d le (term.Bound i) w = w
head_within-more m n d le (term.Var i) w = omega arith
head_within-more m n d le (term.Name i) w = w
head_within-more m n d le (term.Con c) w = w
head_within-more m n d le (term.Int z) w = w
head_within-more m n d le (term.Str s) w = w

-- and a term
within-more : (m n d : ℕ) → m ≤ n → (t : Term) → IsWithin m d t → IsWithin n d t
within-more m n d le (term.Lam b) w = within-more m n (suc d) le b w
within-more m n d le (term.At h) w = head_within-more m n d le h w
within-more m n d le (term.App f a) w = (within-more m n d le f w.0, within-more m n d le a w.1)

-- a tree that is well formed over some variables is so over more
pub formed-more : (m n d : ℕ) → m ≤ n → (t : Tree) → IsFormed m d t → IsFormed n d t
formed-more m n d le t f = record { fits = f.fits; built = f.built; within = within-more m n d le (as_term t) f.within }

-- how a tree is parted: it stays alone, or it is a head with two arguments
pub data IsParted (t : Tree) : Tree × Option Tree → Type 0 where
  alone : IsParted t (t, None)
  two : (head : Head) (left right : Tree) → t ≡ Ap head (left ∷ right ∷ []) → IsParted t (left, Some right)

-- so by its layer
is_parted-layer : (t : Tree) (implication : Bool) (layer : Tree-F Head Tree) → roll-Tree layer ≡ t → IsParted t (parted implication t (args_at layer))
is_parted-layer t false (Tree-F.Lam body) e = alone
is_parted-layer t false (Tree-F.Ap head args) e = alone
is_parted-layer t true (Tree-F.Lam body) e = alone
is_parted-layer t true (Tree-F.Ap head []) e = alone
is_parted-layer t true (Tree-F.Ap head (a ∷ [])) e = alone
is_parted-layer t true (Tree-F.Ap head (a ∷ b ∷ [])) e = two head a b (sym e ∙ rolls-Ap head (a ∷ b ∷ []))
is_parted-layer t true (Tree-F.Ap head (a ∷ b ∷ c ∷ args)) e = alone

-- a clause's tree
pub is_parted : (t : Tree) → IsParted t (head_and_body t)
is_parted t = is_parted-layer t (is_implication t) (out-Tree t) (roll-out-Tree t)

-- the arguments of a head with two are well formed
pub formed-two : (n d : ℕ) (head : Head) (a b : Tree) → IsFormed n d (Ap head (a ∷ b ∷ [])) → IsFormed n d a × IsFormed n d b
formed-two n d head a b f =
    let fits = subst (λ s. IsTrue s.fits) (shape-ap head (a ∷ b ∷ [])) f.fits in
    let built = subst IsTextBuilt (term-ap head (a ∷ b ∷ [])) f.built in
    let within = subst (IsWithin n d) (term-ap head (a ∷ b ∷ [])) f.within in
    (record { fits = grind arith; built = built.0.1; within = within.0.1 }, record { fits = grind arith; built = built.1; within = within.1 })

-- head and body of a well-formed tree are well formed
pub formed-parted : (n d : ℕ) (t : Tree) (p : Tree × Option Tree) → IsParted t p → IsFormed n d t → IsFormed n d p.0 × IfSome p.1 (IsFormed n d)
formed-parted n d t p alone f = (f, tt)
formed-parted n d t p (two head a b e) f = let fs = formed-two n d head a b (subst (IsFormed n d) e f) in (fs.0, fs.1)

-- a clause's head has no more places than its tree
pub places-parted : (t : Tree) (p : Tree × Option Tree) → IsParted t p → length (occurrences p.0) ≤ length (occurrences t)
places-parted t p alone = omega arith
places-parted t p (two head a b e) = rw e (omega (arith, length-occurrences-ap head (a ∷ b ∷ [])))
