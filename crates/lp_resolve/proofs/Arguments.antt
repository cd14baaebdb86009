-- Terms with arguments.
use Rattle.std.proofs.Common.{◌≡◌, ◌∙◌, ℕ, ◌<◌, ◌≤◌, Bool, true, false, ◌&&◌, List, [], ◌∷◌, ◌++◌, Option, Some, None, length, map, sym, ap, subst, refl, arith}
use Rattle.std.specs.Prelude.{IsTrue, reverse}
use Rattle.std.proofs.lemmas.List.{map-append, reverse-append}
use Rattle.ref_terms.specs.declared.tree.Tree.{Tree}
use Rattle.lp_resolve.proofs.Shapes.{fit-last}
use Rattle.ref_terms.specs.terms.Term.{Term, Lam, At, App}
use Rattle.ref_terms.specs.terms.Text.{text_apply, text_apply_all}
use Rattle.lp_resolve.specs.Trees.{with_arguments, Shape, shape, are_none, all_fit}
use Rattle.lp_resolve.specs.inside.Build.{bound_index}

-- an application is no bound name
pub applied-never : (g a : Term) (ts : List Term) → bound_index (with_arguments (App g a) ts) ≡ None
applied-never g a [] = refl
applied-never g a (t ∷ ts) = applied-never (App g a) t ts

-- nor is a term with arguments
pub applied-unbound : {A : Type 0} (f : Term) (of : A → Term) (xs : List A) → 0 < length xs → None ≡ bound_index (with_arguments f (map of xs))
applied-unbound f of [] some = absurd (omega arith)
applied-unbound f of (x ∷ xs) some = sym (applied-never f (of x) (map of xs))

-- one argument more
pub with-last : (f : Term) (ts : List Term) (t : Term) → with_arguments f (ts ++ t ∷ []) ≡ App (with_arguments f ts) t
with-last f [] t = refl
with-last f (u ∷ us) t = with-last (App f u) us t

-- some arguments
pub some-arguments : {A : Type 0} (b : Bool) (of : A → Shape) (xs : List A) → 0 < length xs → b && are_none (map of xs) ≡ false
some-arguments b of [] some = absurd (omega arith)
some-arguments true of (x ∷ xs) some = refl
some-arguments false of (x ∷ xs) some = refl

-- no arguments
pub no-arguments : {A : Type 0} (f : Term) (of : A → Term) (xs : List A) → length xs ≤ 0 → with_arguments f (map of xs) ≡ f
no-arguments f of [] none = refl
no-arguments f of (x ∷ xs) none = absurd (omega arith)

-- two tests that hold together
halves : (a b : Bool) → IsTrue (a && b) → IsTrue a × IsTrue b
halves true true h = (refl, refl)
halves true false h = absurd (let bad = h in cc)
halves false b h = absurd (let bad = h in cc)

-- trees that fit, reversed
pub fit-reversed : (ts : List Tree) → IsTrue (all_fit (map shape ts)) → IsTrue (all_fit (map shape (reverse ts)))
fit-reversed [] h = refl
fit-reversed (t ∷ ts) h =
    let parts = halves (shape t).fits (all_fit (map shape ts)) h in
    let images : map shape (reverse (t ∷ ts)) ≡ map shape (reverse ts) ++ shape t ∷ [] = ap (map shape) (reverse-append (t ∷ []) ts) ∙ map-append shape (reverse ts) (t ∷ []) in
    subst (λ (ss : List Shape). IsTrue (all_fit ss)) (sym images) (fit-last (map shape (reverse ts)) (shape t) (fit-reversed ts parts.1) parts.0)
