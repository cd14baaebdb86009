-- Clauses and rules in the order of the text.
use Rattle.std.specs.Prelude.{◌≡◌, ℕ, ◌≤◌, ◌<◌, false, List, map, length, All, IsPermutation, slice_index_or}
use Rattle.lp_resolve.specs.Places.{is_before}
use Rattle.type_check.specs.declared.places.Item as code
use Rattle.type_check.specs.declared.places.Item.TheVariants.{Clause, Rule}
use Rattle.type_check.specs.declared.places.Entry.{Entry}
use Rattle.type_check.specs.Typings.{Item, of_clause, of_rule, place_of}

-- what an entry refers to
abbrev pub item_at : code.Item → Item
item_at (Clause c) = of_clause c.now
item_at (Rule r) = of_rule r.now

abbrev pub item_of : Entry → Item
item_of e = item_at e.item

-- it stands at its place
abbrev pub IsPlaced : Entry → Type 0
IsPlaced e = e.place ≡ place_of (item_of e)

-- the entries of these clauses and rules
pub record AreEntries (items : List Item) (entries : List Entry) : Type 0 where
  pub items_are : map item_of entries ≡ items
  pub placed : All IsPlaced entries

-- the same in the order of their places
pub record IsInOrder (items : List Item) (entries : List Entry) : Type 0 where
  pub same : IsPermutation items (map item_of entries)
  pub placed : All IsPlaced entries
  pub ordered : (i j : ℕ) (d : Entry) → i ≤ j → j < length entries → is_before (slice_index_or entries j d).place (slice_index_or entries i d).place ≡ false
