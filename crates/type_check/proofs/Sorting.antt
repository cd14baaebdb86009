-- Entries, as they are made and as they are sorted.
use Rattle.std.proofs.Common.{◌≡◌, ◌∙◌, ℕ, Bool, true, false, ◌||◌, ◌&&◌, List, map, get_or, IsPermutation, nat_eq, nat_lt, cond, sym, subst, refl}
use Rattle.std.proofs.lemmas.List.Sorted.{All-permutation, IsPermutation-map, sorted_far, ranks_by}
use Rattle.std.specs.Cmp.{IsTotalOrder, nat_cmp_total, then_total, on_total}
use Rattle.std.specs.Ordering.{is_lt, nat_cmp, ordering_then}
use Rattle.std.specs.List.Sorted.{IsSortedByKey}
use Rattle.std.specs.declared.cmp.Ordering.{Ordering}
use Rattle.std.specs.declared.cmp.Ordering.TheVariants.{Less, Equal, Greater}
use Rattle.lp_resolve.specs.Places.{is_before}
use Rattle.type_check.specs.declared.places.Entry.{Entry}
use Rattle.type_check.specs.Typings.{Item}
use Rattle.type_check.specs.inside.Order.{item_of, IsPlaced, AreEntries, IsInOrder}

-- the key of an entry, and the order of keys
abbrev pub key_of : Entry → ℕ × ℕ
key_of e = (e.place.file, e.place.at)

abbrev pub key_cmp : ℕ × ℕ → ℕ × ℕ → Ordering
key_cmp x y = ordering_then (nat_cmp x.0 y.0) (nat_cmp x.1 y.1)

total : IsTotalOrder key_cmp
total = then_total (on_total (λ (p : ℕ × ℕ). p.0) nat_cmp_total) (on_total (λ (p : ℕ × ℕ). p.1) nat_cmp_total)

by-tests : (a b c d : Bool) → is_lt (ordering_then (cond a Less (cond b Equal Greater)) (cond c Less (cond d Equal Greater))) ≡ (a || (b && c))
by-tests true b c d = refl
by-tests false true true d = refl
by-tests false true false true = refl
by-tests false true false false = refl
by-tests false false c d = refl

-- it is that of places
key-before : (x y : Entry) → is_lt (key_cmp (key_of x) (key_of y)) ≡ is_before x.place y.place
key-before x y = by-tests (nat_lt x.place.file y.place.file) (nat_eq x.place.file y.place.file) (nat_lt x.place.at y.place.at) (nat_eq x.place.at y.place.at)

-- what a sort by keys gives
pub sorted-entries : (items : List Item) (entries sorted : List Entry) → AreEntries items entries → IsPermutation entries sorted → IsSortedByKey key_of key_cmp sorted → IsInOrder items sorted
sorted-entries items entries sorted a same up = record {
  same = subst (λ xs. IsPermutation xs (map item_of sorted)) a.items_are (IsPermutation-map item_of entries sorted same);
  placed = All-permutation IsPlaced entries sorted same a.placed;
  ordered = λ i j d le h.
      sym (key-before (get_or sorted j d) (get_or sorted i d))
      ∙ sorted_far (λ x y. is_lt (key_cmp (key_of x) (key_of y))) (ranks_by total key_of) sorted up i j d le h;
}
