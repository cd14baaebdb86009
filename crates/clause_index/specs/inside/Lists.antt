-- Lists of clauses by their groups.
use Rattle.std.specs.Prelude.{◌≡◌, ℕ, Bool, false, cond, ◌&&◌, nat_eq, List, [], ◌∷◌, length, map, slice_get, unwrap_or, Option, position}
use Rattle.ref_terms.specs.declared.sym.Sym.{Sym}
use Rattle.clause_key.specs.declared.key.Key.{Key}
use Rattle.clause_key.specs.Keys.{fits_every, same_key}
use Rattle.clause_index.specs.declared.lists.Group.{Group}
use Rattle.clause_index.specs.declared.lists.Group.TheVariants.{Every, Loose, Keyed}
use Rattle.clause_index.specs.declared.lists.Lists.{Lists}

-- the group of a clause with this key, besides that of all clauses of its predicate
abbrev pub group_of : Sym → Key → Group
group_of c key = cond (fits_every key) (Loose c) (Keyed c key)

-- whether two groups are one
abbrev pub same_group : Group → Group → Bool
same_group (Every a) (Every b) = nat_eq a.0 b.0
same_group (Loose a) (Loose b) = nat_eq a.0 b.0
same_group (Keyed a k) (Keyed b l) = nat_eq a.0 b.0 && same_key k l
same_group _ _ = false

-- the number of a group's list
abbrev pub number_of : Lists → Group → Option ℕ
number_of ls g = position (same_group g) ls.groups.keys

-- the list with a number
abbrev pub list_at : Lists → ℕ → List ℕ
list_at ls n = unwrap_or (slice_get (map (λ v. v.items) ls.lists.items) n) []

-- the list that stands where the group does
abbrev pub found : Group → List Group → List (List ℕ) → List ℕ
found g [] xss = []
found g (h ∷ hs) [] = []
found g (h ∷ hs) (xs ∷ xss) = cond (same_group g h) xs (found g hs xss)

-- the lists, by their numbers
abbrev pub all_lists : Lists → List (List ℕ)
all_lists ls = map (λ v. v.items) ls.lists.items

-- the list of a group
abbrev pub list_of : Lists → Group → List ℕ
list_of ls g = found g ls.groups.keys (all_lists ls)

-- each group has a list
abbrev pub IsPaired : Lists → Type 0
IsPaired ls = length ls.groups.keys ≡ length ls.lists.items
