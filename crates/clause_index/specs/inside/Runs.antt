-- What is left of lists of clauses.
use Rattle.std.specs.Prelude.{ℕ, ◌<◌, Bool, true, false, not, filter, List, [], ◌∷◌, cond, nat_lt, drop, Option, Some, None}
use Rattle.std.specs.Option.{option_map_or}
use Rattle.clause_index.specs.declared.lists.Lists.{Lists}
use Rattle.clause_index.specs.declared.cands.Run.{Run}
use Rattle.clause_index.specs.inside.Lists.{list_at}

-- what is left of a list
abbrev pub run_in : Lists → Run → List ℕ
run_in ls r = option_map_or (λ n. drop r.at (list_at ls n)) r.list []

-- an item before a list in order, where `rest` merges what comes after the item with a list
abbrev pub merged_before : ℕ → (rest : List ℕ → List ℕ) → List ℕ → List ℕ
merged_before x rest [] = x ∷ rest []
merged_before x rest (y ∷ ys) = cond (nat_lt x y) (x ∷ rest (y ∷ ys)) (y ∷ merged_before x rest ys)

-- two lists in order, merged
abbrev pub merged : List ℕ → List ℕ → List ℕ
merged [] ys = ys
merged (x ∷ xs) ys = merged_before x (merged xs) ys

-- whether the first of two items, where they are there, comes first
abbrev pub comes_first : Option ℕ → Option ℕ → Bool
comes_first None o = false
comes_first (Some i) None = true
comes_first (Some i) (Some j) = nat_lt i j

-- the items of a list from a number on
abbrev pub not_below : ℕ → List ℕ → List ℕ
not_below from xs = filter (λ i. not (nat_lt i from)) xs

-- a number is below each item of a list
abbrev pub IsBelowAll : ℕ → List ℕ → Type 0
IsBelowAll x [] = Unit {0}
IsBelowAll x (y ∷ ys) = (x < y) × IsBelowAll x ys

-- each item of a list is below those after it
abbrev pub IsInOrder : List ℕ → Type 0
IsInOrder [] = Unit {0}
IsInOrder (x ∷ xs) = IsBelowAll x xs × IsInOrder xs
