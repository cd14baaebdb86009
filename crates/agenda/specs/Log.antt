-- The log of an agenda: the pairs that were put in and taken out, newest change first.
use Rattle.std.specs.Prelude.{◌≡◌, ℕ, ◌<◌, ◌-◌, ◌⊎◌, ◌↔◌, ◌++◌, IsTrue, if◌then◌else◌, List, [], ◌∷◌, zero, suc, length, drop}
use Rattle.agenda.specs.declared.Change.{Change}
use Rattle.agenda.specs.declared.Change.TheVariants.{Put, Taken}
use Rattle.agenda.specs.Pairs.{has, put, without}

-- what contracts see of an agenda: how many rules there are, and the log, newest change first
pub record Changes : Type 0 where
  pub rules : ℕ
  pub log : List Change

-- the pairs after a log's changes
abbrev pub pairs_after : List Change → List (ℕ × ℕ)
pairs_after [] = []
pairs_after (Put rule number ∷ older) = put (rule, number) (pairs_after older)
pairs_after (Taken rule number ∷ older) = without (rule, number) (pairs_after older)

-- the pairs that an agenda holds
abbrev pub pairs_of : Changes → List (ℕ × ℕ)
pairs_of agenda = pairs_after agenda.log

-- the oldest changes of a log, so many of them
abbrev pub oldest : ℕ → List Change → List Change
oldest n log = drop (length log - n) log

-- the later log adds changes to the earlier one
pub record IsLater (earlier later : List Change) : Type 0 where
  pub more : List Change
  pub is : later ≡ more ++ earlier

-- the log after a constraint's pairs with the first rules were put in, the last rule's first; those
-- that are there stay
abbrev pub touched : ℕ → ℕ → List Change → List Change
touched zero number log = log
touched (suc rule) number log = touched rule number (if has (pairs_after log) (rule, number) then log else Put rule number ∷ log)

-- the new list has the old one's pairs, and the constraint's with each of the first rules
abbrev pub AddsAll : ℕ → ℕ → List (ℕ × ℕ) → List (ℕ × ℕ) → Type 0
AddsAll rules number old new =
    (p : ℕ × ℕ) → IsTrue (has new p) ↔ (IsTrue (has old p) ⊎ ((p.0 < rules) × (p.1 ≡ number)))

-- the log after the pairs were taken out, first one first
abbrev pub cleared : List (ℕ × ℕ) → List Change → List Change
cleared [] log = log
cleared (p ∷ ps) log = cleared ps (Taken p.0 p.1 ∷ log)
