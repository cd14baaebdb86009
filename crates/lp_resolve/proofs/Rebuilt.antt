-- Trees are rebuilt, layer by layer.
use Rattle.std.proofs.Common.{◌≡◌, ◌∙◌, ℕ, zero, suc, List, [], ◌∷◌, map, refl, ap, sym, subst}
use Rattle.std.proofs.Math.Path.{fun_ext}
use Rattle.ref_terms.specs.terms.Term as term
use Rattle.ref_terms.specs.terms.Term.{Term, App}
use Rattle.ref_terms.specs.terms.Eta.{lam}
use Rattle.ref_terms.specs.terms.Apply.{below, fill}
use Rattle.ref_terms.specs.terms.Built.{IsBuilt}
use Rattle.ref_terms.specs.laws.TermLaws.{AllBuilt}
use Rattle.ref_terms.specs.lemmas.FillLemmas.{built-fill}
use Rattle.ref_terms.specs.unification.Spine.{apply_all}
use Rattle.ref_terms.specs.search.Front.{term_of, term_of_head, tree_term, head_term as numbered_head}
use Rattle.ref_terms.specs.declared.tree.Tree.{Tree, ind-Tree, roll-Tree, fold-roll-Tree, map-Tree}
use Rattle.ref_terms.specs.declared.tree.Head.{Head, roll-Head, fold-roll-Head, map-Head}
use Rattle.ref_terms.specs.declared.tree.Head.TheOpen.{Head-F, Tree-F}
use Rattle.lp_resolve.specs.Trees.{as_term, head_term, head_as_term, tree_as_term, with_arguments}
use Rattle.lp_resolve.specs.Rebuilt.{numbered_from}

-- numbers of variables are the same under an abstraction
below-numbered : (next : ℕ) (h : term.Head) → below (numbered_from next) h ≡ numbered_from next h
below-numbered next (term.Bound zero) = refl
below-numbered next (term.Bound (suc i)) = refl
below-numbered next (term.Con c) = refl
below-numbered next (term.Int z) = refl
below-numbered next (term.Str s) = refl
below-numbered next (term.Name n) = refl
below-numbered next (term.Var v) = refl

-- a term with arguments, rebuilt
fill-arguments : (r : term.Head → Term) (f : Term) (ts : List Term) → fill r (with_arguments f ts) ≡ apply_all (fill r f) (map (fill r) ts)
fill-arguments r f [] = refl
fill-arguments r f (t ∷ ts) = fill-arguments r (App f t) ts

-- the term of a tree is the tree as it stands, rebuilt
abbrev IsRebuilt : (next : ℕ) → Tree → Type 0
IsRebuilt next t = term_of next t ≡ fill (numbered_from next) (as_term t)

-- so of a head
abbrev IsHeadRebuilt : (next : ℕ) → Head → Type 0
IsHeadRebuilt next h = term_of_head next h ≡ fill (numbered_from next) (head_term h)

-- by a head's layer
by-head : (next : ℕ) (l : Head-F Head Tree)
    → numbered_head next (map-Head Head Tree Term Term (term_of_head next) (term_of next) l) ≡ fill (numbered_from next) (head_as_term (map-Head Head Tree Term Term head_term as_term l))
    → IsHeadRebuilt next (roll-Head l)
by-head next l e = fold-roll-Head Term Term (numbered_head next) tree_term l ∙ e ∙ sym (ap (fill (numbered_from next)) (fold-roll-Head Term Term head_as_term tree_as_term l))

-- by a tree's layer
by-tree : (next : ℕ) (l : Tree-F Head Tree)
    → tree_term (map-Tree Head Tree Term Term (term_of_head next) (term_of next) l) ≡ fill (numbered_from next) (tree_as_term (map-Tree Head Tree Term Term head_term as_term l))
    → IsRebuilt next (roll-Tree l)
by-tree next l e = fold-roll-Tree Term Term (numbered_head next) tree_term l ∙ e ∙ sym (ap (fill (numbered_from next)) (fold-roll-Tree Term Term head_as_term tree_as_term l))

module _ (next : ℕ) where
  -- a head with its parts
  abbrev OfHead : Type 0
  OfHead = (h : Head) × IsHeadRebuilt next h

  -- a tree with its parts
  abbrev OfTree : Type 0
  OfTree = (t : Tree) × IsRebuilt next t

  -- one layer of a head
  head-layer : (y : Head-F OfHead OfTree) → IsHeadRebuilt next (roll-Head (map-Head OfHead OfTree Head Tree (λ e. e.0) (λ e. e.0) y))
  head-layer (Head-F.Con c) = by-head next (Head-F.Con c) refl
  head-layer (Head-F.Int z) = by-head next (Head-F.Int z) refl
  head-layer (Head-F.Str s) = by-head next (Head-F.Str s) refl
  head-layer (Head-F.Bound i) = by-head next (Head-F.Bound i) refl
  head-layer (Head-F.ClauseVar v) = by-head next (Head-F.ClauseVar v) refl
  head-layer (Head-F.Stuck e) = by-head next (Head-F.Stuck e.0) e.1

  -- trees that are rebuilt, as a list
  all-rebuilt : (es : List OfTree) → map (term_of next) (map (λ e. e.0) es) ≡ map (fill (numbered_from next)) (map as_term (map (λ e. e.0) es))
  all-rebuilt [] = refl
  all-rebuilt (e ∷ es) =
      ap (λ (t : Term). t ∷ map (term_of next) (map (λ d. d.0) es)) e.1
      ∙ ap (λ (ts : List Term). fill (numbered_from next) (as_term e.0) ∷ ts) (all-rebuilt es)

  -- one layer of a tree
  tree-layer : (y : Tree-F OfHead OfTree) → IsRebuilt next (roll-Tree (map-Tree OfHead OfTree Head Tree (λ e. e.0) (λ e. e.0) y))
  tree-layer (Tree-F.Lam e) =
      by-tree next (Tree-F.Lam e.0)
      (ap lam (e.1 ∙ ap (λ (r : term.Head → Term). fill r (as_term e.0)) (sym (fun_ext (below-numbered next)))))
  tree-layer (Tree-F.Ap d es) =
      by-tree next (Tree-F.Ap d.0 (map (λ e. e.0) es))
      (ap (λ (h : Term). apply_all h (map (term_of next) (map (λ e. e.0) es))) d.1
      ∙ ap (apply_all (fill (numbered_from next) (head_term d.0))) (all-rebuilt es)
      ∙ sym (fill-arguments (numbered_from next) (head_term d.0) (map as_term (map (λ e. e.0) es))))

  -- each tree
  pub term_of-rebuilt : (t : Tree) → term_of next t ≡ fill (numbered_from next) (as_term t)
  term_of-rebuilt = ind-Tree (IsHeadRebuilt next) (IsRebuilt next)
      (λ x y is. subst (λ z. IsHeadRebuilt next (roll-Head z)) is (head-layer y))
      (λ x y is. subst (λ z. IsRebuilt next (roll-Tree z)) is (tree-layer y))

  -- numbered heads are built
  numbered-built : AllBuilt (numbered_from next)
  numbered-built (term.Con c) = tt
  numbered-built (term.Int z) = tt
  numbered-built (term.Str s) = tt
  numbered-built (term.Name n) = tt
  numbered-built (term.Bound i) = tt
  numbered-built (term.Var v) = tt

  -- so each term of a tree is
  pub term_of-built : (t : Tree) → IsBuilt (term_of next t)
  term_of-built t = subst IsBuilt (sym (term_of-rebuilt t)) (built-fill (numbered_from next) numbered-built (as_term t))
