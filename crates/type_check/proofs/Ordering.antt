-- What is known of clauses and rules by their places.
use Rattle.std.proofs.Common.{◌≡◌, ◌∙◌, ℕ, ◌+◌, ◌<◌, ◌≤◌, ◌⊎◌, Bool, true, false, not, List, [], ◌∷◌, length, map, filter, take, get_or, All, IsPermutation, inl, inr, ap, sym, subst, refl, arith, cond}
use Rattle.std.proofs.lemmas.Bool.{cases_lt}
use Rattle.std.proofs.lemmas.List.{get_or-take, get_or-map, length-map, length-take}
use Rattle.std.proofs.lemmas.List.Elements.{All-nil, All-head, All-tail, All-cons, All-map, All-filter, filter_passes}
use Rattle.std.proofs.lemmas.List.Sorted.{All-permutation, IsPermutation-sym}
use Rattle.lp_parser.specs.declared.ast.Place.{Place}
use Rattle.lp_resolve.specs.Places.{is_before}
use Rattle.type_check.specs.declared.places.Entry.{Entry}
use Rattle.type_check.specs.Typings.{Item, place_of, before, upto}
use Rattle.type_check.specs.inside.Order.{item_of, IsInOrder}

-- what holds of those that pass a test
pub all-passing : {A : Type 0} (p : A → Bool) (Q : A → Type 0) (xs : List A) → All (λ x. p x ≡ true → Q x) xs → All Q (filter p xs)
all-passing p Q xs a k d h = All-filter p (λ x. p x ≡ true → Q x) xs a k d h (filter_passes p xs k d h)

pub all-passed : {A : Type 0} (p : A → Bool) (Q : A → Type 0) (xs : List A) → All Q (filter p xs) → All (λ x. p x ≡ true → Q x) xs
all-passed p Q [] a = All-nil (λ x. p x ≡ true → Q x)
all-passed p Q (x ∷ xs) a = of (all-passed p Q xs) (p x) refl a
  where
    of : (All Q (filter p xs) → All (λ y. p y ≡ true → Q y) xs) → (b : Bool) → p x ≡ b → All Q (cond b (x ∷ filter p xs) (filter p xs)) → All (λ y. p y ≡ true → Q y) (x ∷ xs)
    of rest true e a = All-cons (λ y. p y ≡ true → Q y) x xs (λ t. All-head Q x (filter p xs) a) (rest (All-tail Q x (filter p xs) a))
    of rest false e a = All-cons (λ y. p y ≡ true → Q y) x xs (λ t. absurd (let f : false ≡ true = sym e ∙ t in cc)) (rest a)

-- what holds of what entries refer to
pub all-unmapped : {A B : Type 0} (f : A → B) (P : B → Type 0) (xs : List A) → All P (map f xs) → All (λ x. P (f x)) xs
all-unmapped f P xs a k d h = subst P (get_or-map f xs k d (f d) h) (a k (f d) (omega (arith, h, length-map xs f)))

pub from-entries : (items : List Item) (entries : List Entry) (P : Item → Type 0) → IsPermutation items (map item_of entries) → All (λ e. P (item_of e)) entries → All P items
from-entries items entries P same a = All-permutation P (map item_of entries) items (IsPermutation-sym items (map item_of entries) same) (All-map P item_of entries a)

pub to-entries : (items : List Item) (entries : List Entry) (P : Item → Type 0) → IsPermutation items (map item_of entries) → All P items → All (λ e. P (item_of e)) entries
to-entries items entries P same a = all-unmapped item_of P entries (All-permutation P items (map item_of entries) same a)

-- the clauses and rules before the place of the entry at k are among the first k
pub typed-before : (items : List Item) (entries : List Entry) (P : Item → Type 0) (k : ℕ) (place : Place) → IsInOrder items entries → k < length entries → ((d : Entry) → place ≡ (get_or entries k d).place)
    → All (λ e. P (item_of e)) (take k entries) → All P (before place items)
typed-before items entries P k place o within at a =
    all-passing (λ i. is_before (place_of i) place) P items
    (from-entries items entries (λ i. is_before (place_of i) place ≡ true → P i) o.same (λ j d h t. of j d h t (cases_lt j k)))
  where
    of : (j : ℕ) (d : Entry) → j < length entries → is_before (place_of (item_of (get_or entries j d))) place ≡ true → (j < k) ⊎ (k ≤ j) → P (item_of (get_or entries j d))
    of j d h t (inl l) = subst (λ e. P (item_of e)) (get_or-take k entries j d l) (a j d (omega (arith, l, within, length-take k entries)))
    of j d h t (inr l) =
        let no' : is_before (get_or entries j d).place (get_or entries k d).place ≡ false = o.ordered k j d l h in
        let same : is_before (place_of (item_of (get_or entries j d))) place ≡ is_before (get_or entries j d).place (get_or entries k d).place =
        ap (λ q. is_before q place) (sym (o.placed j d h)) ∙ ap (is_before (get_or entries j d).place) (at d) in
        absurd (let f : true ≡ false = sym t ∙ same ∙ no' in cc)

-- and those up to it have among them the first k and the entry at k
pub upto-typed : (items : List Item) (entries : List Entry) (P : Item → Type 0) (k : ℕ) (place : Place) → IsInOrder items entries → k < length entries → ((d : Entry) → place ≡ (get_or entries k d).place)
    → All P (upto place items) → All (λ e. P (item_of e)) (take (k + 1) entries)
upto-typed items entries P k place o within at a j d h =
    let l : j < k + 1 = omega (arith, h, length-take (k + 1) entries) in
    let hj : j < length entries = omega (arith, l, within) in
    let there = to-entries items entries (λ i. not (is_before place (place_of i)) ≡ true → P i) o.same (all-passed (λ i. not (is_before place (place_of i))) P items a) j d hj in
    let le : j ≤ k = omega (arith, l) in
    let no' : is_before (get_or entries k d).place (get_or entries j d).place ≡ false = o.ordered j k d le within in
    let same : is_before place (place_of (item_of (get_or entries j d))) ≡ false =
    ap (λ q. is_before place q) (sym (o.placed j d hj)) ∙ ap (λ q. is_before q (get_or entries j d).place) (at d) ∙ no' in
    subst (λ e. P (item_of e)) (sym (get_or-take (k + 1) entries j d l)) (there (ap not same))
