-- Trees and terms as they stand: each gives the other back.
use Rattle.std.proofs.Common.{◌≡◌, ◌∙◌, ℕ, suc, Bool, true, false, not, ◌&&◌, List, [], ◌∷◌, ◌++◌, map, refl, ap, sym, subst, append-nil}
use Rattle.std.specs.Prelude.{IsTrue}
use Rattle.std.specs.List.{list_all}
use Rattle.ref_terms.specs.terms.Term as term
use Rattle.ref_terms.specs.terms.Term.{Term}
use Rattle.ref_terms.specs.declared.tree.Tree.{Tree, ind-Tree, roll-Tree, out-Tree, fold_out-Tree, map-Tree}
use Rattle.ref_terms.specs.declared.tree.Tree.TheVariants.{Lam, Ap, rolls-Lam, rolls-Ap}
use Rattle.ref_terms.specs.declared.tree.Head.{Head, roll-Head, map-Head}
use Rattle.ref_terms.specs.declared.tree.Head.TheVariants.{Con, Int, Str, Bound, ClauseVar, Stuck, rolls-Con, rolls-Int, rolls-Str, rolls-Bound, rolls-ClauseVar, rolls-Stuck}
use Rattle.ref_terms.specs.declared.tree.Head.TheOpen.{Head-F, Tree-F}
use Rattle.lp_resolve.specs.Trees.{as_term, head_term, head_as_term, tree_as_term, with_arguments, Shape, shape, head_shape, shape_at, head_shape_at, are_none, all_fit, IsWithin}
use Rattle.lp_resolve.specs.Treed.{head_of, tree_before, tree_of}
use Rattle.lp_resolve.proofs.TreeForms.{term-lam, term-ap, term-con, term-int, term-str, term-bound, term-variable, term-stuck, plain, shape-lam, shape-ap, shape-con, shape-int, shape-str, shape-bound, shape-variable, shape-stuck}
use Rattle.lp_resolve.proofs.Shapes.{Fits, fits-ap, ap-fits, fits-plain}

-- the head of a tree as a term
head-back : (h : term.Head) → (n d : ℕ) → IsWithin n d (term.At h) → head_term (head_of h) ≡ term.At h
head-back (term.Con c) n d w = term-con _
head-back (term.Int z) n d w = term-int z
head-back (term.Str s) n d w = term-str _
head-back (term.Name x) n d w = absurd w
head-back (term.Bound i) n d w = term-bound i
head-back (term.Var v) n d w = term-variable v

-- the term of a term's tree, with its arguments
pub as_term-before : (n d : ℕ) (t : Term) (args : List Tree) → IsWithin n d t → as_term (tree_before args t) ≡ with_arguments t (map as_term args)
as_term-before n d (term.App f a) args w =
    as_term-before n d f (tree_before [] a ∷ args) w.0 ∙ ap (λ u. with_arguments (term.App f u) (map as_term args)) (as_term-before n d a [] w.1)
as_term-before n d (term.At h) args w = term-ap (head_of h) args ∙ ap (λ f. with_arguments f (map as_term args)) (head-back h n d w)
as_term-before n d (term.Lam b) [] w = term-lam (tree_before [] b) ∙ ap term.Lam (as_term-before n (suc d) b [] w)
as_term-before n d (term.Lam b) (a ∷ args) w =
    term-ap (Stuck (Lam (tree_before [] b))) (a ∷ args)
    ∙ ap (λ f. with_arguments f (map as_term (a ∷ args))) (term-stuck (Lam (tree_before [] b)) ∙ term-lam (tree_before [] b) ∙ ap term.Lam (as_term-before n (suc d) b [] w))

-- the term of a term's tree
pub as_term-tree_of : (n d : ℕ) (t : Term) → IsWithin n d t → as_term (tree_of t) ≡ t
as_term-tree_of n d t w = as_term-before n d t [] w

-- the head of a tree isn't stuck
head-plain : (h : term.Head) → head_shape (head_of h) ≡ plain
head-plain (term.Con c) = shape-con _
head-plain (term.Int z) = shape-int z
head-plain (term.Str s) = shape-str _
head-plain (term.Name x) = shape-bound x
head-plain (term.Bound i) = shape-bound i
head-plain (term.Var v) = shape-variable v

-- two tests that hold
both : (a b : Bool) → IsTrue a → IsTrue b → IsTrue (a && b)
both true b h k = k
both false b h k = absurd (let bad = h in cc)

-- a term's tree fits
pub fits-before : (t : Term) (args : List Tree) → IsTrue (all_fit (map shape args)) → IsTrue (shape (tree_before args t)).fits
fits-before (term.App f a) args h = fits-before f (tree_before [] a ∷ args) (both (shape (tree_before [] a)).fits (all_fit (map shape args)) (fits-before a [] refl) h)
fits-before (term.At h') args h = fits-plain (head_of h') args (head-plain h') h
fits-before (term.Lam b) [] h = ap (λ (s : Shape). s.fits) (shape-lam (tree_before [] b)) ∙ fits-before b [] refl
fits-before (term.Lam b) (a ∷ args) h =
    let inner = tree_before [] b in
    let stuck : head_shape (Stuck (Lam inner)) ≡ record { abstraction = true; fits = (shape (Lam inner)).abstraction && (shape (Lam inner)).fits } = shape-stuck (Lam inner) in
    let one = ap (λ (s : Shape). s.abstraction) (shape-lam inner) in
    let two = ap (λ (s : Shape). s.fits) (shape-lam inner) ∙ fits-before b [] refl in
    fits-ap (Stuck (Lam inner)) (a ∷ args) (record {
      head_fits = ap (λ (s : Shape). s.fits) stuck ∙ both (shape (Lam inner)).abstraction (shape (Lam inner)).fits one two;
      some = ap (λ (s : Shape). s.abstraction && false) stuck;
      arguments_fit = h;
    })

-- a tree that is an abstraction, as a term
lam-term : (t : Tree) → IsTrue (shape t).abstraction → (b : Term) × (as_term t ≡ term.Lam b)
lam-term t e =
    let whole = fold_out-Tree Term Term head_as_term tree_as_term t in
    let form = fold_out-Tree Shape Shape head_shape_at shape_at t in
    let found = layer (out-Tree t) (ap (λ (s : Shape). s.abstraction) (sym form) ∙ e) in
    (found.0, whole ∙ found.1) where
      layer : (l : Tree-F Head Tree) → IsTrue (shape_at (map-Tree Head Tree Shape Shape head_shape shape l)).abstraction
          → (b : Term) × (tree_as_term (map-Tree Head Tree Term Term head_term as_term l) ≡ term.Lam b)
      layer (Tree-F.Lam b) e = (as_term b, refl)
      layer (Tree-F.Ap head args) e = absurd (let bad = e in cc)

-- the tree of a spine
before-spine : (f : Term) (ts : List Term) (args : List Tree) → tree_before args (with_arguments f ts) ≡ tree_before (map tree_of ts ++ args) f
before-spine f [] args = refl
before-spine f (t ∷ ts) args = before-spine (term.App f t) ts args

-- a tree that fits is the tree of its term
abbrev IsBack : Tree → Type 0
IsBack t = IsTrue (shape t).fits → tree_of (as_term t) ≡ t

-- a head that fits, with its arguments, is the tree of its term before them
abbrev IsHeadBack : Head → Type 0
IsHeadBack h = (args : List Tree) → Fits (head_shape h) (map shape args) → tree_before args (head_term h) ≡ Ap h args

-- two tests of a pair that holds
halves : (a b : Bool) → IsTrue (a && b) → IsTrue a × IsTrue b
halves true true h = (refl, refl)
halves true false h = absurd (let bad = h in cc)
halves false b h = absurd (let bad = h in cc)

-- a stuck abstraction before arguments
stuck-before : (b : Tree) (u : Term) (args : List Tree) → as_term b ≡ term.Lam u → tree_of (as_term b) ≡ b → are_none (map shape args) ≡ false → tree_before args (as_term b) ≡ Ap (Stuck b) args
stuck-before b u [] is back some = absurd (let bad : true ≡ false = some in cc)
stuck-before b u (a ∷ args) is back some =
    ap (tree_before (a ∷ args)) is ∙ ap (λ (t : Tree). Ap (Stuck t) (a ∷ args)) (ap tree_of (sym is) ∙ back)

-- so where it fits
stuck-back : (b : Tree) → IsBack b → (args : List Tree) → Fits (head_shape (Stuck b)) (map shape args) → tree_before args (as_term b) ≡ Ap (Stuck b) args
stuck-back b back args f =
    let stuck = shape-stuck b in
    let parts = halves (shape b).abstraction (shape b).fits (ap (λ (s : Shape). s.fits) (sym stuck) ∙ f.head_fits) in
    let lam = lam-term b parts.0 in
    let some : are_none (map shape args) ≡ false = ap (λ (s : Shape). s.abstraction && are_none (map shape args)) (sym stuck) ∙ f.some in
    stuck-before b lam.0 args lam.1 (back parts.1) some

-- one layer of a head
head-layer : (y : Head-F ((h : Head) × IsHeadBack h) ((t : Tree) × IsBack t)) → IsHeadBack (roll-Head (map-Head ((h : Head) × IsHeadBack h) ((t : Tree) × IsBack t) Head Tree (λ e. e.0) (λ e. e.0) y))
head-layer (Head-F.Con c) args f = subst (λ (h : Head). tree_before args (head_term h) ≡ Ap h args) (sym (rolls-Con c)) (ap (tree_before args) (term-con c))
head-layer (Head-F.Int z) args f = subst (λ (h : Head). tree_before args (head_term h) ≡ Ap h args) (sym (rolls-Int z)) (ap (tree_before args) (term-int z))
head-layer (Head-F.Str s) args f = subst (λ (h : Head). tree_before args (head_term h) ≡ Ap h args) (sym (rolls-Str s)) (ap (tree_before args) (term-str s))
head-layer (Head-F.Bound i) args f = subst (λ (h : Head). tree_before args (head_term h) ≡ Ap h args) (sym (rolls-Bound i)) (ap (tree_before args) (term-bound i))
head-layer (Head-F.ClauseVar v) args f = subst (λ (h : Head). tree_before args (head_term h) ≡ Ap h args) (sym (rolls-ClauseVar v)) (ap (tree_before args) (term-variable v))
head-layer (Head-F.Stuck e) args f =
    subst (λ (h : Head). tree_before args (head_term h) ≡ Ap h args) (sym (rolls-Stuck e.0))
    (ap (tree_before args) (term-stuck e.0) ∙ stuck-back e.0 e.1 args (subst (λ (h : Head). Fits (head_shape h) (map shape args)) (rolls-Stuck e.0) f))

-- trees that are given back, as a list
all-back : (es : List ((t : Tree) × IsBack t)) → IsTrue (all_fit (map shape (map (λ e. e.0) es))) → map tree_of (map as_term (map (λ e. e.0) es)) ≡ map (λ e. e.0) es
all-back [] h = refl
all-back (e ∷ es) h =
    let parts = halves (shape e.0).fits (all_fit (map shape (map (λ d. d.0) es))) h in
    ap (λ (t : Tree). t ∷ map tree_of (map as_term (map (λ d. d.0) es))) (e.1 parts.0) ∙ ap (λ (ts : List Tree). e.0 ∷ ts) (all-back es parts.1)

-- one layer of a tree
tree-layer : (y : Tree-F ((h : Head) × IsHeadBack h) ((t : Tree) × IsBack t)) → IsBack (roll-Tree (map-Tree ((h : Head) × IsHeadBack h) ((t : Tree) × IsBack t) Head Tree (λ e. e.0) (λ e. e.0) y))
tree-layer (Tree-F.Lam e) =
    subst IsBack (sym (rolls-Lam e.0)) (λ fits.
    ap tree_of (term-lam e.0) ∙ ap Lam (e.1 (ap (λ (s : Shape). s.fits) (sym (shape-lam e.0)) ∙ fits)))
tree-layer (Tree-F.Ap d es) =
    subst IsBack (sym (rolls-Ap d.0 (map (λ e. e.0) es))) (λ fits.
    let args = map (λ e. e.0) es in
    let f = ap-fits d.0 args fits in
    ap tree_of (term-ap d.0 args) ∙ before-spine (head_term d.0) (map as_term args) []
    ∙ ap (λ (ts : List Tree). tree_before ts (head_term d.0)) (append-nil (map tree_of (map as_term args)) ∙ all-back es f.arguments_fit)
    ∙ d.1 args f)

-- a tree that fits is the tree of its term
pub tree_of-as_term : (tree : Tree) → IsTrue (shape tree).fits → tree_of (as_term tree) ≡ tree
tree_of-as_term = ind-Tree IsHeadBack IsBack
    (λ x y is. subst (λ z. IsHeadBack (roll-Head z)) is (head-layer y))
    (λ x y is. subst (λ z. IsBack (roll-Tree z)) is (tree-layer y))
