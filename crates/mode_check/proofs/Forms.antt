-- What is known of trees and heads, form by form.
use Rattle.std.proofs.Common.{◌≡◌, ◌∙◌, ℕ, ℤ, Bool, append_assoc, List, [], ◌∷◌, ◌++◌, Option, None, Result, Ok, Err, OnOk, map, flat_map, ap, sym, refl}
use Rattle.std.proofs.lemmas.List.{map-append}
use Rattle.ref_terms.specs.declared.sym.Sym.{Sym}
use Rattle.ref_terms.specs.declared.tree.Tree.{Tree, fold-roll-Tree}
use Rattle.ref_terms.specs.declared.tree.Tree.TheVariants.{Lam, Ap, rolls-Lam, rolls-Ap}
use Rattle.ref_terms.specs.declared.tree.Head.{Head, fold-roll-Head}
use Rattle.ref_terms.specs.declared.tree.Head.TheVariants.{Con, Int, Str, Bound, ClauseVar, Stuck, rolls-Con, rolls-Int, rolls-Str, rolls-Bound, rolls-ClauseVar, rolls-Stuck}
use Rattle.ref_terms.specs.declared.tree.Head.TheOpen.{Head-F, Tree-F}
use Rattle.lp_resolve.specs.Occurrences.{Occurrence, Front, Walked, variable, bound_name, stuck, other, front_at, front_places, name_at, walked_at, walked, head_walked, occurrences}

-- mapping twice
map-twice : {A B C : Type 0} (f : B → C) (g : A → B) (xs : List A) → map f (map g xs) ≡ map (λ x. f (g x)) xs
map-twice f g [] = refl
map-twice f g (x ∷ xs) = ap (λ ys. f (g x) ∷ ys) (map-twice f g xs)

-- joining after mapping
flat-twice : {A B C : Type 0} (f : B → List C) (g : A → B) (xs : List A) → flat_map f (map g xs) ≡ flat_map (λ x. f (g x)) xs
flat-twice f g [] = refl
flat-twice f g (x ∷ xs) = ap (λ ys. f (g x) ++ ys) (flat-twice f g xs)

-- the bound name that each of the trees is
abbrev pub names_of : List Tree → List (Option ℕ)
names_of trees = map (λ t. (walked t).name) trees

-- an abstraction
walked-lam : (body : Tree) → walked (Lam body) ≡ record { name = None; places = (walked body).places }
walked-lam body = ap walked (sym (rolls-Lam body)) ∙ fold-roll-Tree Front Walked front_at walked_at (Tree-F.Lam body)

-- a head with its arguments
walked-ap : (head : Head) (args : List Tree) → walked (Ap head args) ≡ walked_at (Tree-F.Ap (head_walked head) (map walked args))
walked-ap head args = ap walked (sym (rolls-Ap head args)) ∙ fold-roll-Tree Front Walked front_at walked_at (Tree-F.Ap head args)

-- the variables of an abstraction
pub occurrences-lam : (body : Tree) → occurrences (Lam body) ≡ occurrences body
occurrences-lam body = ap (λ w. w.places) (walked-lam body)

-- those of a head with its arguments
pub occurrences-ap : (head : Head) (args : List Tree) → occurrences (Ap head args) ≡ front_places (head_walked head) (names_of args) ++ flat_map occurrences args
occurrences-ap head args =
    ap (λ w. w.places) (walked-ap head args)
    ∙ ap (λ names. front_places (head_walked head) names ++ flat_map (λ w. w.places) (map walked args)) (map-twice (λ w. w.name) walked args)
    ∙ ap (λ places. front_places (head_walked head) (names_of args) ++ places) (flat-twice (λ w. w.places) walked args)

-- the bound name that an abstraction is
pub name-lam : (body : Tree) → (walked (Lam body)).name ≡ None
name-lam body = ap (λ w. w.name) (walked-lam body)

-- the bound name that a head with its arguments is
pub name-ap : (head : Head) (args : List Tree) → (walked (Ap head args)).name ≡ name_at (head_walked head) (map walked args)
name-ap head args = ap (λ w. w.name) (walked-ap head args)

-- the forms of heads
pub head-con : (c : Sym) → head_walked (Con c) ≡ other
head-con c = ap head_walked (sym (rolls-Con c)) ∙ fold-roll-Head Front Walked front_at walked_at (Head-F.Con c)

pub head-int : (z : ℤ) → head_walked (Int z) ≡ other
head-int z = ap head_walked (sym (rolls-Int z)) ∙ fold-roll-Head Front Walked front_at walked_at (Head-F.Int z)

pub head-str : (s : Sym) → head_walked (Str s) ≡ other
head-str s = ap head_walked (sym (rolls-Str s)) ∙ fold-roll-Head Front Walked front_at walked_at (Head-F.Str s)

pub head-bound : (i : ℕ) → head_walked (Bound i) ≡ bound_name i
head-bound i = ap head_walked (sym (rolls-Bound i)) ∙ fold-roll-Head Front Walked front_at walked_at (Head-F.Bound i)

pub head-variable : (v : ℕ) → head_walked (ClauseVar v) ≡ variable v
head-variable v = ap head_walked (sym (rolls-ClauseVar v)) ∙ fold-roll-Head Front Walked front_at walked_at (Head-F.ClauseVar v)

pub head-stuck : (abstraction : Tree) → head_walked (Stuck abstraction) ≡ stuck (occurrences abstraction)
head-stuck abstraction = ap head_walked (sym (rolls-Stuck abstraction)) ∙ fold-roll-Head Front Walked front_at walked_at (Head-F.Stuck abstraction)

-- what is noted of a head and then of its arguments
pub noted-ap : (f : Occurrence → Bool) (tree : Tree) (head : Head) (args : List Tree) (old middle new : List Bool) → tree ≡ Ap head args
    → (spine rest : List Tree) → spine ≡ args → rest ≡ args
    → middle ≡ old ++ map f (front_places (head_walked head) (names_of spine)) → new ≡ middle ++ map f (flat_map occurrences rest)
    → new ≡ old ++ map f (occurrences tree)
noted-ap f tree head args old middle new is spine rest es er first last =
    last ∙ ap (λ xs. middle ++ map f (flat_map occurrences xs)) er
    ∙ ap (λ bs. bs ++ map f (flat_map occurrences args)) (first ∙ ap (λ xs. old ++ map f (front_places (head_walked head) (names_of xs))) es)
    ∙ append_assoc old (map f (front_places (head_walked head) (names_of args))) (map f (flat_map occurrences args))
    ∙ ap (λ bs. old ++ bs) (sym (ap (map f) (ap occurrences is ∙ occurrences-ap head args)
    ∙ map-append f (front_places (head_walked head) (names_of args)) (flat_map occurrences args)))

-- a fact on success, from another
pub when-ok : {A E P Q : Type 0} (r : Result A E) → (P → Q) → OnOk r P → OnOk r Q
when-ok (Ok x) f p = f p
when-ok (Err e) f p = p
