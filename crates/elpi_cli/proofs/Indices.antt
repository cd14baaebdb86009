-- Indices that are below a count.
use Rattle.std.proofs.Common.{ℕ, suc, zero, ◌<◌, List, [], ◌∷◌, ◌++◌, length, get_or, arith}
use Rattle.elpi_cli.specs.Words.{AllBelow}

-- one of them
pub below-at : (count : ℕ) (indices : List ℕ) (i : ℕ) → i < length indices → AllBelow count indices → get_or indices i 0 < count
below-at count [] i less all = absurd (omega arith)
below-at count (index ∷ indices) zero less all = all.0
below-at count (index ∷ indices) (suc i) less all = below-at count indices i (omega arith) all.1

-- one more
pub below-more : (count : ℕ) (indices : List ℕ) (index : ℕ) → AllBelow count indices → index < count → AllBelow count (indices ++ index ∷ [])
below-more count [] index all less = (less, tt)
below-more count (first ∷ indices) index all less = (all.0, below-more count indices index all.1 less)
