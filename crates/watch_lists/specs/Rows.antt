-- The log of watch lists, and the numbers that stand in the list of a subject after it. Logs stand newest change first.
use Rattle.std.specs.Prelude.{ℕ, ◌-◌, cond, nat_eq, List, [], ◌∷◌, ◌++◌, length, drop}
use Rattle.watch_lists.specs.declared.Change.{Change}
use Rattle.watch_lists.specs.declared.Change.TheVariants.{Entered, Handed}

-- the numbers in the list of a subject: the one that was entered; those of a subject that was handed over, before its own
abbrev pub numbers_after : List Change → ℕ → List ℕ
numbers_after [] s = []
numbers_after (Entered t n ∷ older) s = cond (nat_eq t s) (n ∷ numbers_after older s) (numbers_after older s)
numbers_after (Handed v u ∷ older) s = cond (nat_eq u s) (numbers_after older v ++ numbers_after older s) (numbers_after older s)

-- the log's oldest changes, so many of them
abbrev pub oldest : ℕ → List Change → List Change
oldest n log = drop (length log - n) log
