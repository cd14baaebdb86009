-- The levels over which a variable's value is abstracted.
use Rattle.std.specs.Prelude.{◌≡◌, ℕ, ◌<◌, false, List, length, slice_index}
use Rattle.ref_terms.specs.terms.Term.{Term}
use Rattle.ref_terms.specs.terms.Occurs.{has_name}

-- the names are those of the first levels, in order
abbrev pub AreFirst : List ℕ → Type 0
AreFirst ns = (i : ℕ) → i < length ns → slice_index ns i ≡ i

-- a table has, at each name of a list, the name's position there
abbrev pub HasPositions : (ns table : List ℕ) → Type 0
HasPositions ns table = (i : ℕ) → i < length ns → slice_index table (slice_index ns i) ≡ i

-- no name stands in the term
abbrev pub IsNameless : Term → Type 0
IsNameless u = (n : ℕ) → has_name n u ≡ false
