-- What the levels stand for.
use Rattle.std.specs.Prelude.{◌≡◌, ℕ, ◌<◌, List, length, slice_index}
use Rattle.ref_terms.specs.terms.Term.{Term, At, Name}

-- each level is the name of its number
abbrev pub names : ℕ → Term
names i = At (Name i)

-- each level is the name that a list gives it
abbrev pub renamed : List ℕ → ℕ → Term
renamed ns i = At (Name (slice_index ns i))

-- each name of a list lies below a depth
abbrev pub AllBelow : List ℕ → ℕ → Type 0
AllBelow ns depth = (i : ℕ) → i < length ns → slice_index ns i < depth

-- a list has no name twice
abbrev pub AreDistinct : List ℕ → Type 0
AreDistinct ns = (i j : ℕ) → i < length ns → j < length ns → slice_index ns i ≡ slice_index ns j → i ≡ j
