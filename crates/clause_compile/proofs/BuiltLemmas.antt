-- Terms of trees are built, so that they are their own instance at no names.
use Rattle.std.proofs.Common.{◌≡◌, ◌∙◌, ◌+◌, List, [], ◌∷◌, map, refl, ap, sym, subst, arith}
use mathlib.Core.Path.{fun_ext}
use Rattle.ref_terms.specs.terms.Term as term
use Rattle.ref_terms.specs.terms.Term.{Term}
use Rattle.ref_terms.specs.terms.Apply.{apply, fill}
use Rattle.ref_terms.specs.terms.Built.{IsBuilt}
use Rattle.ref_terms.specs.unification.Spine.{apply_all}
use Rattle.ref_terms.specs.lemmas.FillLemmas.{built-apply, built-lam}
use Rattle.ref_terms.specs.lemmas.OccursLemmas.{fill_at}
use Rattle.ref_terms.specs.declared.tree.Tree.{Tree, ind-Tree, roll-Tree, map-Tree}
use Rattle.ref_terms.specs.declared.tree.Tree.TheVariants.{rolls-Lam, rolls-Ap}
use Rattle.ref_terms.specs.declared.tree.Head.{Head, roll-Head, map-Head}
use Rattle.ref_terms.specs.declared.tree.Head.TheVariants.{rolls-Con, rolls-Int, rolls-Str, rolls-Bound, rolls-ClauseVar, rolls-Stuck}
use Rattle.ref_terms.specs.declared.tree.Head.TheOpen.{Head-F, Tree-F}
use Rattle.ref_terms.specs.search.Front.{term_of, term_of_head}
use Rattle.ref_terms.specs.search.Instance.{fresh_for_variable}
use Rattle.clause_compile.proofs.TreeForms.{front-lam, front-ap, front-con, front-int, front-str, front-bound, front-variable, front-stuck}

-- a built tree and a built head
abbrev HeadBuilt : Head → Type 0
HeadBuilt h = IsBuilt (term_of_head 0 h)

abbrev TreeBuilt : Tree → Type 0
TreeBuilt t = IsBuilt (term_of 0 t)

built-head : (y : Head-F ((h : Head) × HeadBuilt h) ((t : Tree) × TreeBuilt t)) → HeadBuilt (roll-Head (map-Head ((h : Head) × HeadBuilt h) ((t : Tree) × TreeBuilt t) Head Tree (λ e. e.0) (λ e. e.0) y))
built-head (Head-F.Con c) = subst HeadBuilt (sym (rolls-Con c)) (subst IsBuilt (sym (front-con c)) tt)
built-head (Head-F.Int z) = subst HeadBuilt (sym (rolls-Int z)) (subst IsBuilt (sym (front-int z)) tt)
built-head (Head-F.Str s) = subst HeadBuilt (sym (rolls-Str s)) (subst IsBuilt (sym (front-str s)) tt)
built-head (Head-F.Bound i) = subst HeadBuilt (sym (rolls-Bound i)) (subst IsBuilt (sym (front-bound i)) tt)
built-head (Head-F.ClauseVar v) = subst HeadBuilt (sym (rolls-ClauseVar v)) (subst IsBuilt (sym (front-variable v)) tt)
built-head (Head-F.Stuck e) = subst HeadBuilt (sym (rolls-Stuck e.0)) (subst IsBuilt (sym (front-stuck e.0)) e.1)

built-all : (es : List ((t : Tree) × TreeBuilt t)) (f : Term) → IsBuilt f → IsBuilt (apply_all f (map (term_of 0) (map (λ e. e.0) es)))
built-all [] f w = w
built-all (e ∷ es) f w = built-all es (apply f (term_of 0 e.0)) (built-apply f (term_of 0 e.0) w e.1)

built-layer : (y : Tree-F ((h : Head) × HeadBuilt h) ((t : Tree) × TreeBuilt t)) → TreeBuilt (roll-Tree (map-Tree ((h : Head) × HeadBuilt h) ((t : Tree) × TreeBuilt t) Head Tree (λ e. e.0) (λ e. e.0) y))
built-layer (Tree-F.Lam e) = subst TreeBuilt (sym (rolls-Lam e.0)) (subst IsBuilt (sym (front-lam e.0)) (built-lam (term_of 0 e.0) e.1))
built-layer (Tree-F.Ap h es) =
    subst TreeBuilt (sym (rolls-Ap h.0 (map (λ e. e.0) es))) (subst IsBuilt (sym (front-ap h.0 (map (λ e. e.0) es))) (built-all es (term_of_head 0 h.0) h.1))

pub tree-built : (t : Tree) → IsBuilt (term_of 0 t)
tree-built = ind-Tree HeadBuilt TreeBuilt
    (λ x y is. subst (λ z. HeadBuilt (roll-Head z)) is (built-head y))
    (λ x y is. subst (λ z. TreeBuilt (roll-Tree z)) is (built-layer y))

-- at no names, and from the first variable on, variables stand for themselves
fresh-same : (h : term.Head) → fresh_for_variable 0 0 h ≡ term.At h
fresh-same (term.Var v) = ap (λ n. term.At (term.Var n)) (let e : 0 + v ≡ v = omega arith in e)
fresh-same (term.Con c) = refl
fresh-same _ = refl

pub own-instance : (t : Tree) → fill (fresh_for_variable 0 0) (term_of 0 t) ≡ term_of 0 t
own-instance t = ap (λ (r : term.Head → Term). fill r (term_of 0 t)) (fun_ext fresh-same) ∙ fill_at (term_of 0 t) (tree-built t)
