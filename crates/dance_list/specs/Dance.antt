-- A restorable list as three lists: all its nodes, the linked ones, and the stack of the unlinked ones.
use Rattle.std.specs.Prelude.{◌≡◌, ◌≢◌, ℕ, suc, ◌+◌, List, [], ◌∷◌, ◌++◌, map, length, Option, Some, None, ⊤}
use Rattle.std.specs.List.{AllPairs}
use lib.ListN.{set}
use denote.RawPtr.{Ptr}
use denote.Bor.{Bor}
use Rattle.dance_list.specs.declared.cells.Node.{Node}
use Rattle.dance_list.specs.declared.chain.Cell.{Cell}
use Rattle.dance_list.specs.inside.Blocks.{nth}

-- an unlinked node, its item, and the linked nodes that stood before it and after it when it was unlinked
abbrev pub Unlinked : Type 0 → Type 0
Unlinked X = Node × X × List (Node × X) × List (Node × X)

-- the list that its unlinking left
abbrev pub left_by : {X : Type 0} → Unlinked X → List (Node × X)
left_by u = u.2 ++ u.3

-- the list before its unlinking
abbrev pub undone : {X : Type 0} → Unlinked X → List (Node × X)
undone u = u.2 ++ (u.0, u.1) ∷ u.3

-- all nodes in the order of their pushes, the linked nodes with their items, and the unlinked nodes, the newest first
abbrev pub Dance : Type 0 → Type 0
Dance X = List Node × List (Node × X) × List (Unlinked X)

abbrev pub nodes : {X : Type 0} → Dance X → List Node
nodes l = l.0

abbrev pub linked : {X : Type 0} → Dance X → List (Node × X)
linked l = l.1

abbrev pub unlinked : {X : Type 0} → Dance X → List (Unlinked X)
unlinked l = l.2

-- no node stands twice
abbrev pub IsEachOnce : List Node → Type 0
IsEachOnce = AllPairs (λ m n. m ≢ n)

module _ {X : Type 0} where
  -- the first node, or `after` where there is none
  unfoldable pub first_of : List (Node × X) → Option Node → Option Node
  first_of [] after = after
  first_of (l ∷ ls) after = Some l.0

  -- the last node, or `before` where there is none
  unfoldable pub last_of : Option Node → List (Node × X) → Option Node
  last_of before [] = before
  last_of before (l ∷ ls) = last_of (Some l.0) ls

  -- the cell lies at the node's place
  abbrev pub Has : List (Ptr × Cell X) → Node → Cell X → Type 0
  Has cs n c = nth cs n.number ≡ Some (n.place.ptr, c)

  abbrev pub IsHere : List (Ptr × Cell X) → Node → Type 0
  IsHere cs n = (c : Cell X) × Has cs n c

  -- the cells with another one at the node's place
  abbrev pub put : List (Ptr × Cell X) → Node → Cell X → List (Ptr × Cell X)
  put cs n c = set cs n.number (n.place.ptr, c)

  -- the cells of the nodes hold their items, and lead from each to the next and back
  unfoldable pub Run : List (Ptr × Cell X) → Option Node → List (Node × X) → Option Node → Type 0
  Run cs before [] after = ⊤
  Run cs before (l ∷ ls) after = Has cs l.0 (record { before = before; after = first_of ls after; item = l.1 }) × Run cs (Some l.0) ls after

  -- the cell of an unlinked node holds its item and the neighbours that it had
  abbrev pub Keeps : List (Ptr × Cell X) → Unlinked X → Type 0
  Keeps cs u = Has cs u.0 (record { before = last_of None u.2; after = first_of u.3 None; item = u.1 })

  unfoldable pub AllKeep : List (Ptr × Cell X) → List (Unlinked X) → Type 0
  AllKeep cs [] = ⊤
  AllKeep cs (u ∷ us) = Keeps cs u × AllKeep cs us

  abbrev pub numbers : List (Node × X) → List ℕ
  numbers = map (λ l. l.0.number)

  abbrev pub kept_numbers : List (Unlinked X) → List ℕ
  kept_numbers = map (λ u. u.0.number)

-- the number is none of these
unfoldable pub Avoids : ℕ → List ℕ → Type 0
Avoids k [] = ⊤
Avoids k (j ∷ js) = ¬ (k ≡ j) × Avoids k js

-- no number stands twice
unfoldable pub Apart : List ℕ → Type 0
Apart [] = ⊤
Apart (k ∷ ks) = Avoids k ks × Apart ks

-- the nodes are numbered from k on
unfoldable pub Numbered : ℕ → List Node → Type 0
Numbered k [] = ⊤
Numbered k (n ∷ ns) = (n.number ≡ k) × Numbered (suc k) ns

-- the cells and the ends of a list that is seen as these three lists
pub record IsDance {X : Type 0} (cs : List (Ptr × Cell X)) (first last : Option Node) (ns : List Node) (ls : List (Node × X)) (us : List (Unlinked X)) : Type 0 where
  pub starts : first ≡ first_of ls None
  pub ends : last ≡ last_of None ls
  pub runs : Run cs None ls None
  pub keeps : AllKeep cs us
  pub apart : Apart (numbers ls ++ kept_numbers us)
  pub counts : length ls + length us ≡ length ns
  pub places : map (λ n. n.place.ptr) ns ≡ map (λ c. c.0) cs
  pub numbered : Numbered 0 ns

-- what an iterator gives, as contracts see it
abbrev pub shown : {X : Type 0} → Node × Bor X → Node × X
shown r = (r.0, r.1.now)
