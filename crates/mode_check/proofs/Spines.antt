-- Distinct names, as they are noted one by one.
use Rattle.std.proofs.Common.{◌≡◌, ◌∙◌, ℕ, ◌+◌, ◌<◌, length, get_or, drop, Bool, true, false, ◌&&◌, ◌||◌, not, nat_eq, List, [], ◌∷◌, ◌++◌, Option, Some, None, sym, ap, refl, arith}
use Rattle.std.specs.List.{list_any, list_all}
use Rattle.std.specs.Prelude.{if◌then◌else◌}
use Rattle.std.proofs.lemmas.List.{drop_more}
use Rattle.std.proofs.lemmas.List.Folds.{list_all-append}
use Rattle.std.proofs.lemmas.Bool.Decides.{nat_tests}
use Rattle.indexmap.specs.IndexSet.{insert_key}
use Rattle.ref_terms.specs.declared.tree.Tree.{Tree}
use Rattle.lp_resolve.specs.Occurrences.{walked, is_unused, are_distinct_names}
use Rattle.mode_check.proofs.Forms.{names_of}

-- distinct names, none of them among these
abbrev pub are_free : (used : List ℕ) → List (Option ℕ) → Bool
are_free used names = list_all (λ u. is_unused u names) used && are_distinct_names names

-- equality of numbers goes both ways
pub same-sym : (a b : ℕ) → nat_eq a b ≡ nat_eq b a
same-sym a b = grind (arith, nat_tests)

and-false : (b : Bool) → (b && false) ≡ false
and-false true = refl
and-false false = refl

and-true : (b : Bool) → (b && true) ≡ b
and-true true = refl
and-true false = refl

-- each name is free of no names
all-none : (used : List ℕ) → list_all (λ u. is_unused u []) used ≡ true
all-none [] = refl
all-none (u ∷ used) = all-none used

-- no names are left
pub free-nil : (used : List ℕ) → are_free used [] ≡ true
free-nil used = ap (λ b. b && true) (all-none used)

-- what isn't a bound name
pub free-none : (used : List ℕ) (names : List (Option ℕ)) → are_free used (None ∷ names) ≡ false
free-none used names = and-false (list_all (λ u. is_unused u (None ∷ names)) used)

swapped : (x a y r : Bool) → ((not x && a) && (not y && r)) ≡ (not (x || y) && (a && r))
swapped true a y r = refl
swapped false a true r = and-false a
swapped false a false r = refl

-- a name is free of these where it is none of them
all-some : (used : List ℕ) (i : ℕ) (names : List (Option ℕ)) → list_all (λ u. is_unused u (Some i ∷ names)) used
    ≡ (not (list_any (nat_eq i) used) && list_all (λ u. is_unused u names) used)
all-some [] i names = refl
all-some (u ∷ used) i names =
    ap (λ x. (not x && is_unused u names) && list_all (λ u. is_unused u (Some i ∷ names)) used) (same-sym u i)
    ∙ ap (λ x. (not (nat_eq i u) && is_unused u names) && x) (all-some used i names)
    ∙ swapped (nat_eq i u) (is_unused u names) (list_any (nat_eq i) used) (list_all (λ u. is_unused u names) used)

joined : (any l u d : Bool) → ((not any && l) && (u && d)) ≡ (if any then false else ((l && (u && true)) && d))
joined true l u d = refl
joined false true true d = refl
joined false true false d = refl
joined false false u d = refl

-- one more name, which is none of these, or isn't free
pub free-some : (used : List ℕ) (i : ℕ) (names : List (Option ℕ))
    → are_free used (Some i ∷ names) ≡ (if list_any (nat_eq i) used then false else are_free (used ++ i ∷ []) names)
free-some used i names =
    ap (λ x. x && (is_unused i names && are_distinct_names names)) (all-some used i names)
    ∙ joined (list_any (nat_eq i) used) (list_all (λ u. is_unused u names) used) (is_unused i names) (are_distinct_names names)
    ∙ ap (λ x. if list_any (nat_eq i) used then false else (x && are_distinct_names names)) (sym (list_all-append (λ u. is_unused u names) used (i ∷ [])))

-- from one argument on
spine-step : (used : List ℕ) (args : List Tree) (i : ℕ) (a : Tree) → i < length args → a ≡ get_or args i a
    → are_free used (names_of (drop i args)) ≡ are_free used ((walked a).name ∷ names_of (drop (i + 1) args))
spine-step used args i a h e = ap (λ rest. are_free used (names_of rest)) (drop_more args i a h ∙ ap (λ x. x ∷ drop (i + 1) args) (sym e))

-- an argument that is no bound name
pub spine-none : (used : List ℕ) (args : List Tree) (i : ℕ) (a : Tree) → i < length args → a ≡ get_or args i a → None ≡ (walked a).name
    → are_free used (names_of (drop i args)) ≡ false
spine-none used args i a h e n =
    spine-step used args i a h e ∙ ap (λ o. are_free used (o ∷ names_of (drop (i + 1) args))) (sym n) ∙ free-none used (names_of (drop (i + 1) args))

-- an argument that is a bound name
spine-some : (used : List ℕ) (args : List Tree) (i : ℕ) (a : Tree) (name : ℕ) (known : Bool) → i < length args → a ≡ get_or args i a → Some name ≡ (walked a).name
    → list_any (nat_eq name) used ≡ known
    → are_free used (names_of (drop i args)) ≡ (if known then false else are_free (used ++ name ∷ []) (names_of (drop (i + 1) args)))
spine-some used args i a name known h e n k =
    spine-step used args i a h e ∙ ap (λ o. are_free used (o ∷ names_of (drop (i + 1) args))) (sym n) ∙ free-some used name (names_of (drop (i + 1) args))
    ∙ ap (λ b. if b then false else are_free (used ++ name ∷ []) (names_of (drop (i + 1) args))) k

negated : (added known : Bool) → added ≡ not known → not added ≡ known
negated added true e = ap not e
negated added false e = ap not e

-- one that was there
pub spine-taken : (used : List ℕ) (args : List Tree) (i : ℕ) (a : Tree) (name : ℕ) (added : Bool) → i < length args → a ≡ get_or args i a → Some name ≡ (walked a).name
    → added ≡ not (list_any (nat_eq name) used) → added ≡ false → are_free used (names_of (drop i args)) ≡ false
spine-taken used args i a name added h e n k b = spine-some used args i a name true h e n (sym (negated added (list_any (nat_eq name) used) k) ∙ ap not b)

-- a new one
pub spine-new : (used later : List ℕ) (args : List Tree) (i : ℕ) (a : Tree) (name : ℕ) (added : Bool) → i < length args → a ≡ get_or args i a → Some name ≡ (walked a).name
    → added ≡ not (list_any (nat_eq name) used) → added ≡ true → later ≡ insert_key nat_eq used name
    → are_free used (names_of (drop i args)) ≡ are_free later (names_of (drop (i + 1) args))
spine-new used later args i a name added h e n k b l =
    let fresh : list_any (nat_eq name) used ≡ false = sym (negated added (list_any (nat_eq name) used) k) ∙ ap not b in
    spine-some used args i a name false h e n fresh
    ∙ ap (λ ks. are_free ks (names_of (drop (i + 1) args))) (sym (l ∙ ap (λ x. if x then used else used ++ name ∷ []) fresh))
