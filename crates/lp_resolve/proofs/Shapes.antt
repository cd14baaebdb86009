-- The shapes of trees, and what they say of the trees' terms.
use Rattle.std.proofs.Common.{◌≡◌, ◌∙◌, ℕ, ◌≤◌, Bool, true, false, not, ◌&&◌, List, [], ◌∷◌, ◌++◌, Option, None, length, map, sym, ap, subst, refl, arith}
use Rattle.std.specs.Prelude.{IsTrue}
use Rattle.std.proofs.lemmas.List.{map-append}
use Rattle.std.specs.List.{list_all}
use Rattle.ref_terms.specs.terms.Term.{Term, Lam, At, App, Con, Int, Str, Name, Bound, Var}
use Rattle.ref_terms.specs.terms.Text.{text_apply}
use Rattle.ref_terms.specs.terms.Eta.{eta}
use Rattle.ref_terms.specs.declared.tree.Tree.{Tree, out-Tree, fold_out-Tree, map-Tree}
use Rattle.ref_terms.specs.declared.tree.Tree.TheVariants.{Ap}
use Rattle.ref_terms.specs.declared.tree.Head.{Head, out-Head, fold_out-Head, map-Head}
use Rattle.ref_terms.specs.declared.tree.Head.TheOpen.{Head-F, Tree-F}
use Rattle.lp_resolve.specs.Trees.{as_term, head_term, head_as_term, tree_as_term, with_arguments, Shape, shape, head_shape, shape_at, head_shape_at, are_none, all_fit}
use Rattle.lp_resolve.proofs.TreeForms.{term-ap, shape-ap, plain}

-- the parts of a tree that fits
pub record Fits (head : Shape) (arguments : List Shape) : Type 0 where
  pub head_fits : IsTrue head.fits
  pub some : head.abstraction && are_none arguments ≡ false
  pub arguments_fit : IsTrue (all_fit arguments)

-- the parts of a test that holds
parts : (h n a : Bool) → IsTrue (h && not n && a) → IsTrue h × (n ≡ false) × IsTrue a
parts true false true e = (refl, refl, refl)
parts true false false e = absurd (let bad = e in cc)
parts true true a e = absurd (let bad = e in cc)
parts false n a e = absurd (let bad = e in cc)

-- a tree that fits
pub fits-ap : (head : Head) (arguments : List Tree) → Fits (head_shape head) (map shape arguments) → IsTrue (shape (Ap head arguments)).fits
fits-ap head arguments f =
    ap (λ (s : Shape). s.fits) (shape-ap head arguments) ∙ rw (f.head_fits, f.some, f.arguments_fit) refl

-- its parts
pub ap-fits : (head : Head) (arguments : List Tree) → IsTrue (shape (Ap head arguments)).fits → Fits (head_shape head) (map shape arguments)
ap-fits head arguments e =
    let all = parts (head_shape head).fits ((head_shape head).abstraction && are_none (map shape arguments)) (all_fit (map shape arguments)) (sym (ap (λ (s : Shape). s.fits) (shape-ap head arguments)) ∙ e) in
    record { head_fits = all.0; some = all.1; arguments_fit = all.2 }

-- one more argument that fits
pub fit-last : (shapes : List Shape) (s : Shape) → IsTrue (all_fit shapes) → IsTrue s.fits → IsTrue (all_fit (shapes ++ s ∷ []))
fit-last [] s all one = rw one refl
fit-last (t ∷ shapes) s all one = both t.fits (all_fit shapes) (all_fit (shapes ++ s ∷ [])) all (λ rest. fit-last shapes s rest one) where
  both : (a b c : Bool) → IsTrue (a && b) → (IsTrue b → IsTrue c) → IsTrue (a && c)
  both true b c h f = f h
  both false b c h f = absurd (let bad = h in cc)

-- those before the last fit, and so does it
pub last-fits : (shapes : List Shape) (s : Shape) → IsTrue (all_fit (shapes ++ s ∷ [])) → IsTrue (all_fit shapes) × IsTrue s.fits
last-fits [] s all = (refl, first s.fits all) where
  first : (a : Bool) → IsTrue (a && true) → IsTrue a
  first true h = refl
  first false h = absurd (let bad = h in cc)
last-fits (t ∷ shapes) s all =
    let at = both t.fits (all_fit (shapes ++ s ∷ [])) all in
    let rest = last-fits shapes s at.1 in
    (joined t.fits (all_fit shapes) at.0 rest.0, rest.1) where
      both : (a b : Bool) → IsTrue (a && b) → IsTrue a × IsTrue b
      both true true h = (refl, refl)
      both true false h = absurd (let bad = h in cc)
      both false b h = absurd (let bad = h in cc)

      joined : (a b : Bool) → IsTrue a → IsTrue b → IsTrue (a && b)
      joined true b h k = k
      joined false b h k = absurd (let bad = h in cc)

-- a term that isn't an abstraction
abbrev pub IsOpen : Term → Type 0
IsOpen (Lam b) = ⊥
IsOpen (At h) = Unit {0}
IsOpen (App f a) = Unit {0}

-- a head that isn't stuck is no abstraction
open-head : (h : Head) → (head_shape h).abstraction ≡ false → IsOpen (head_term h)
open-head h e =
    let term = fold_out-Head Term Term head_as_term tree_as_term h in
    let form = fold_out-Head Shape Shape head_shape_at shape_at h in
    subst IsOpen (sym term) (layer (out-Head h) (ap (λ (s : Shape). s.abstraction) (sym form) ∙ e)) where
      layer : (l : Head-F Head Tree) → (head_shape_at (map-Head Head Tree Shape Shape head_shape shape l)).abstraction ≡ false → IsOpen (head_as_term (map-Head Head Tree Term Term head_term as_term l))
      layer (Head-F.Con c) e = tt
      layer (Head-F.Int z) e = tt
      layer (Head-F.Str s) e = tt
      layer (Head-F.Bound i) e = tt
      layer (Head-F.ClauseVar i) e = tt
      layer (Head-F.Stuck b) e = absurd (let bad = e in cc)

-- an application is none
open-applied : (f a : Term) (ts : List Term) → IsOpen (with_arguments (App f a) ts)
open-applied f a [] = tt
open-applied f a (t ∷ ts) = open-applied (App f a) t ts

-- nor is a head with its arguments, where these fit
pub open-ap : (head : Head) (arguments : List Tree) → Fits (head_shape head) (map shape arguments) → IsOpen (with_arguments (head_term head) (map as_term arguments))
open-ap head [] f = open-head head (first (head_shape head).abstraction f.some) where
  first : (a : Bool) → (a && true) ≡ false → a ≡ false
  first true h = h
  first false h = refl
open-ap head (a ∷ arguments) f = open-applied (head_term head) (as_term a) (map as_term arguments)

-- a term that isn't an abstraction gets one more argument
pub apply-open : (t a : Term) → IsOpen t → text_apply t a ≡ App t a
apply-open (Lam b) a o = absurd o
apply-open (At h) a o = refl
apply-open (App f b) a o = refl

-- a term that isn't a name
abbrev pub IsNoName : Term → Type 0
IsNoName (Lam b) = Unit {0}
IsNoName (App f a) = Unit {0}
IsNoName (At (Name n)) = ⊥
IsNoName (At (Con c)) = Unit {0}
IsNoName (At (Int z)) = Unit {0}
IsNoName (At (Str s)) = Unit {0}
IsNoName (At (Bound i)) = Unit {0}
IsNoName (At (Var v)) = Unit {0}

-- a head that isn't stuck is no name
nameless-head : (h : Head) → (head_shape h).abstraction ≡ false → IsNoName (head_term h)
nameless-head h e =
    let term = fold_out-Head Term Term head_as_term tree_as_term h in
    let form = fold_out-Head Shape Shape head_shape_at shape_at h in
    subst IsNoName (sym term) (layer (out-Head h) (ap (λ (s : Shape). s.abstraction) (sym form) ∙ e)) where
      layer : (l : Head-F Head Tree) → (head_shape_at (map-Head Head Tree Shape Shape head_shape shape l)).abstraction ≡ false → IsNoName (head_as_term (map-Head Head Tree Term Term head_term as_term l))
      layer (Head-F.Con c) e = tt
      layer (Head-F.Int z) e = tt
      layer (Head-F.Str s) e = tt
      layer (Head-F.Bound i) e = tt
      layer (Head-F.ClauseVar i) e = tt
      layer (Head-F.Stuck b) e = absurd (let bad = e in cc)

-- nor is an application
nameless-applied : (f a : Term) (ts : List Term) → IsNoName (with_arguments (App f a) ts)
nameless-applied f a [] = tt
nameless-applied f a (t ∷ ts) = nameless-applied (App f a) t ts

-- nor is a head with its arguments
nameless-ap : (head : Head) (arguments : List Tree) → Fits (head_shape head) (map shape arguments) → IsNoName (with_arguments (head_term head) (map as_term arguments))
nameless-ap head [] f = nameless-head head (first (head_shape head).abstraction f.some) where
  first : (a : Bool) → (a && true) ≡ false → a ≡ false
  first true h = h
  first false h = refl
nameless-ap head (a ∷ arguments) f = nameless-applied (head_term head) (as_term a) (map as_term arguments)

-- no tree that fits is a name
pub nameless-tree : (t : Tree) → IsTrue (shape t).fits → IsNoName (as_term t)
nameless-tree t e =
    let term = fold_out-Tree Term Term head_as_term tree_as_term t in
    let form = fold_out-Tree Shape Shape head_shape_at shape_at t in
    subst IsNoName (sym term) (layer (out-Tree t) (ap (λ (s : Shape). s.fits) (sym form) ∙ e)) where
      layer : (l : Tree-F Head Tree) → IsTrue (shape_at (map-Tree Head Tree Shape Shape head_shape shape l)).fits → IsNoName (tree_as_term (map-Tree Head Tree Term Term head_term as_term l))
      layer (Tree-F.Lam b) e = tt
      layer (Tree-F.Ap head arguments) e =
          let all = parts (head_shape head).fits ((head_shape head).abstraction && are_none (map shape arguments)) (all_fit (map shape arguments)) e in
          nameless-ap head arguments (record { head_fits = all.0; some = all.1; arguments_fit = all.2 })

-- a head that isn't stuck, with its arguments
pub fits-plain : (head : Head) (arguments : List Tree) → head_shape head ≡ plain → IsTrue (all_fit (map shape arguments)) → IsTrue (shape (Ap head arguments)).fits
fits-plain head arguments is fit =
    fits-ap head arguments (record { head_fits = ap (λ (s : Shape). s.fits) is; some = ap (λ (s : Shape). s.abstraction && are_none (map shape arguments)) is; arguments_fit = fit })

-- a head without arguments isn't contracted
eta-head : (h : Head) → (head_shape h).abstraction ≡ false → None ≡ eta (head_term h)
eta-head h e =
    let term = fold_out-Head Term Term head_as_term tree_as_term h in
    let form = fold_out-Head Shape Shape head_shape_at shape_at h in
    let P : Term → Type 0 = λ t. None ≡ eta t in
    subst P (sym term) (layer (out-Head h) (ap (λ (s : Shape). s.abstraction) (sym form) ∙ e)) where
      layer : (l : Head-F Head Tree) → (head_shape_at (map-Head Head Tree Shape Shape head_shape shape l)).abstraction ≡ false → None ≡ eta (head_as_term (map-Head Head Tree Term Term head_term as_term l))
      layer (Head-F.Con c) e = refl
      layer (Head-F.Int z) e = refl
      layer (Head-F.Str s) e = refl
      layer (Head-F.Bound i) e = refl
      layer (Head-F.ClauseVar i) e = refl
      layer (Head-F.Stuck b) e = absurd (let bad = e in cc)

-- the same of a tree
pub eta-ap : (head : Head) (arguments : List Tree) → length arguments ≤ 0 → IsTrue (shape (Ap head arguments)).fits → None ≡ eta (as_term (Ap head arguments))
eta-ap head [] none fits =
    let f = ap-fits head [] fits in
    let P : Term → Type 0 = λ t. None ≡ eta t in
    subst P (sym (term-ap head [])) (eta-head head (first (head_shape head).abstraction f.some)) where
      first : (a : Bool) → (a && true) ≡ false → a ≡ false
      first true h = h
      first false h = refl
eta-ap head (a ∷ arguments) none fits = absurd (omega arith)

-- one more argument
pub fits-pushed : (head : Head) (arguments : List Tree) (a : Tree) → Fits (head_shape head) (map shape arguments) → IsTrue (shape a).fits → IsTrue (shape (Ap head (arguments ++ a ∷ []))).fits
fits-pushed head arguments a f one =
    let images : map shape (arguments ++ a ∷ []) ≡ map shape arguments ++ shape a ∷ [] = map-append shape arguments (a ∷ []) in
    let P : List Shape → Type 0 = λ shapes. Fits (head_shape head) shapes in
    fits-ap head (arguments ++ a ∷ []) (subst P (sym images) (record {
      head_fits = f.head_fits;
      some = never (head_shape head).abstraction (map shape arguments) (shape a);
      arguments_fit = fit-last (map shape arguments) (shape a) f.arguments_fit one;
    })) where
      never : (b : Bool) (shapes : List Shape) (s : Shape) → b && are_none (shapes ++ s ∷ []) ≡ false
      never true [] s = refl
      never true (t ∷ shapes) s = refl
      never false shapes s = refl
