-- The least of a list of ranks.
use Rattle.std.specs.Prelude.{◌≡◌, ℕ, ◌+◌, ◌*◌, ◌<◌, ◌≤◌, ◌⊎◌, List, length, map, slice_index, slice_index_or, nat_lt, if◌then◌else◌, ◌||◌, ◌&&◌, ◌==◌}
use Rattle.agenda.specs.declared.ranks.Entry.{Entry}

-- the first entry comes before the second, or they are the same: by rank, and then by place
abbrev pub IsNoLater : Entry → Entry → Type 0
IsNoLater a b = (a.rank < b.rank) ⊎ ((a.rank ≡ b.rank) × (a.place ≤ b.place))

-- the entry of a place in a list of ranks
abbrev pub entry_at : List ℕ → ℕ → Entry
entry_at ranks place = record { rank = slice_index ranks place; place = place }

-- the entry is one of the list's, and comes before all others
pub record IsFirst (ranks : List ℕ) (first : Entry) : Type 0 where
  pub within : first.place < length ranks
  pub rank : slice_index ranks first.place ≡ first.rank
  pub least : (place : ℕ) → place < length ranks → IsNoLater first (entry_at ranks place)

-- the earlier of two entries
abbrev pub earlier : Entry → Entry → Entry
earlier a b = if nat_lt b.rank a.rank || ((a.rank == b.rank) && nat_lt b.place a.place) then b else a

-- the entry at a node
abbrev pub node : List Entry → ℕ → Entry
node nodes k = slice_index_or nodes k (record { rank = 0; place = 0 })

-- an inner node has the earlier of its children's entries
abbrev pub IsInner : List Entry → ℕ → Type 0
IsInner nodes k = node nodes k ≡ earlier (node nodes (2 * k)) (node nodes (2 * k + 1))

-- a tree of nodes: node 1 is the root, the children of node k are the nodes 2 k and 2 k + 1, and
-- the second half of the nodes are the leaves, one for each place
pub record IsTree (places : ℕ) (nodes : List Entry) : Type 0 where
  pub size : length nodes ≡ places + places
  pub leaves : (place : ℕ) → place < places → (node nodes (places + place)).place ≡ place
  pub inner : (k : ℕ) → 0 < k → k < places → IsInner nodes k

-- the ranks of entries
abbrev pub ranks_of : List Entry → List ℕ
ranks_of entries = map (λ e. e.rank) entries
