-- How many joint names sequents have, and how high they are.
use Rattle.std.specs.Prelude.{◌≡◌, ℕ, ◌<◌, List, map, length, slice_index, Option, IfSome}
use Rattle.ref_terms.specs.search.Joint.{map_at}
use Rattle.ref_terms.specs.search.Used.{Every}
use Rattle.beta_fragment.specs.Names.{AllBelow}
use Rattle.eigen_align.specs.declared.sequent.Sequent.{Sequent}

-- how many names each sequent has
abbrev pub depths_of : List Sequent → List ℕ
depths_of ss = map (λ s. s.depth) ss

-- the first sequents have as many joint names as names
abbrev pub HaveCounts : List Sequent → List (List ℕ) → Type 0
HaveCounts ss maps = (i : ℕ) → i < length maps → length (map_at maps i) ≡ slice_index (depths_of ss) i

-- all joint names lie below a depth
abbrev pub HaveBelow : ℕ → List (List ℕ) → Type 0
HaveBelow depth maps = (i : ℕ) → i < length maps → AllBelow (map_at maps i) depth

-- so do those that some names of one sequent have
abbrev pub AreBelow : ℕ → List (Option ℕ) → Type 0
AreBelow depth ms = Every (λ m. IfSome m (λ z. z < depth)) ms
