-- Pairs of nodes whose readings are compared.
use Rattle.std.specs.Prelude.{◌≡◌, ℕ, ◌+◌, ◌<◌, Bool, true, false, List, [], ◌∷◌, ◌++◌, Option, Some, None}
use Rattle.level_terms.specs.declared.node.TermId.{TermId}
use Rattle.level_terms.specs.Graph.{Graph}
use Rattle.level_terms.specs.Reached.{tree, tree_size}
use Rattle.level_terms.specs.Reading.{read}
use Rattle.level_terms.specs.Valid.{IsValid}
use Rattle.beta_fragment.specs.Names.{names}
use Rattle.beta_fragment.specs.declared.equality.Pair.{Pair}

-- both nodes are valid at the pair's depth
abbrev pub IsValidPair : Graph → Pair → Type 0
IsValidPair g p = IsValid g p.left.index p.depth × IsValid g p.right.index p.depth

-- so of each pair
abbrev pub AllValidPairs : Graph → List Pair → Type 0
AllValidPairs g [] = Unit {0}
AllValidPairs g (p ∷ more) = IsValidPair g p × AllValidPairs g more

-- both nodes read the same
abbrev pub IsSame : Graph → Pair → Type 0
IsSame g p = read g p.left.index names ≡ read g p.right.index names

-- so of each pair
abbrev pub AllSame : Graph → List Pair → Type 0
AllSame g [] = Unit {0}
AllSame g (p ∷ more) = IsSame g p × AllSame g more

-- how much there is to compare
abbrev pub pair_size : Graph → Pair → ℕ
pair_size g p = tree_size (tree g p.left.index) + tree_size (tree g p.right.index)

abbrev pub pairs_size : Graph → List Pair → ℕ
pairs_size g [] = 0
pairs_size g (p ∷ more) = pair_size g p + pairs_size g more

-- nodes of two lists, one pair after the other
abbrev pub pairs_of : (depth : ℕ) → List TermId → List TermId → List Pair
pairs_of depth [] us = []
pairs_of depth (t ∷ ts) [] = []
pairs_of depth (t ∷ ts) (u ∷ us) = record { left = t; right = u; depth = depth } ∷ pairs_of depth ts us

-- the nodes of a pair read the same exactly where those of another do, which has less below it
pub record StandsFor (g : Graph) (p next : Pair) : Type 0 where
  pub valid : IsValidPair g next
  pub whole : IsSame g next → IsSame g p
  pub each : IsSame g p → IsSame g next
  pub less : pair_size g next < pair_size g p

-- so of several pairs, which were put onto the list
pub record Divides (g : Graph) (p : Pair) (old new : List Pair) : Type 0 where
  pub parts : List Pair
  pub pushed : new ≡ old ++ parts
  pub valid : AllValidPairs g parts
  pub whole : AllSame g parts → IsSame g p
  pub each : IsSame g p → AllSame g parts
  pub less : pairs_size g parts < pair_size g p

-- so, or the nodes read differently
abbrev pub TurnsOut : Graph → Pair → (old new : List Pair) → Bool → Type 0
TurnsOut g p old new true = Divides g p old new
TurnsOut g p old new false = IsSame g p → ⊥

-- so, or the list is as before
abbrev pub MayDivide : Graph → Pair → (old new : List Pair) → Bool → Type 0
MayDivide g p old new true = Divides g p old new
MayDivide g p old new false = new ≡ old

-- so, or nothing is told and the list is as before
abbrev pub MayTell : Graph → Pair → (old new : List Pair) → Option Bool → Type 0
MayTell g p old new (Some e) = TurnsOut g p old new e
MayTell g p old new None = new ≡ old

-- a node in the place of another: it reads the same, and has less below it
pub record IsValueOf (g : Graph) (t value : ℕ) : Type 0 where
  pub reads : read g t names ≡ read g value names
  pub valid : (depth : ℕ) → IsValid g t depth → IsValid g value depth
  pub less : tree_size (tree g value) < tree_size (tree g t)
