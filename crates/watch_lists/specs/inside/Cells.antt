-- How watch lists are kept: a cell for each change, which leads to the older cells of its list. Cells stand newest first,
-- and a cell's number is how many are older.
use Rattle.std.specs.Prelude.{◌≡◌, ℕ, suc, ◌+◌, ◌<◌, cond, nat_eq, List, [], ◌∷◌, ◌++◌, map, length, Option, Some, None}
use Rattle.watch_lists.specs.declared.Change.{Change}
use Rattle.watch_lists.specs.declared.Change.TheVariants.{Entered, Handed}
use Rattle.watch_lists.specs.declared.Cell.{Cell}

-- the changes that cells were made for
abbrev pub changes : List Cell → List Change
changes cells = map (λ c. c.change) cells

-- the cell of a number
abbrev pub cell_at : List Cell → ℕ → Option Cell
cell_at [] i = None
cell_at (c ∷ older) i = cond (nat_eq (length older) i) (Some c) (cell_at older i)

-- the subject whose list a change makes longer
abbrev pub subject_of : Change → ℕ
subject_of (Entered s n) = s
subject_of (Handed v u) = u

-- the newest cell of a subject's list
abbrev pub first_at : List Cell → ℕ → Option ℕ
first_at [] s = None
first_at (c ∷ older) s = cond (nat_eq (subject_of c.change) s) (Some (length older)) (first_at older s)

-- the newest cell of the list that a change hands over
abbrev pub handed_at : List Cell → Change → Option ℕ
handed_at older (Entered s n) = None
handed_at older (Handed v u) = first_at older v

-- each cell leads to the next one of its list, and to the first one of the list that was handed over
abbrev pub IsLinked : List Cell → Type 0
IsLinked [] = Unit {0}
IsLinked (c ∷ older) = (c.next ≡ first_at older (subject_of c.change)) × (c.handed ≡ handed_at older c.change) × IsLinked older

-- what a change puts before the rest of its list
abbrev pub put_before : Change → (handed rest : List ℕ) → List ℕ
put_before (Entered s n) handed rest = n ∷ rest
put_before (Handed v u) handed rest = handed ++ rest

-- the number that a change entered
abbrev pub entered : Change → List ℕ
entered (Entered s n) = n ∷ []
entered (Handed v u) = []

-- what stands from a cell on
abbrev pub from_cell : (ℕ → List ℕ) → Option ℕ → List ℕ
from_cell f None = []
from_cell f (Some i) = f i

-- the numbers from the cell of a number on
abbrev pub list_at : List Cell → ℕ → List ℕ
list_at [] i = []
list_at (c ∷ older) i = cond (nat_eq (length older) i) (put_before c.change (from_cell (list_at older) c.handed) (from_cell (list_at older) c.next)) (list_at older i)

-- how many cells are passed for an optional one
abbrev pub weight_of : (ℕ → ℕ) → Option ℕ → ℕ
weight_of f None = 0
weight_of f (Some i) = f i

-- how many cells are passed from one on
abbrev pub weight_at : List Cell → ℕ → ℕ
weight_at [] i = 0
weight_at (c ∷ older) i = cond (nat_eq (length older) i) (suc (weight_of (weight_at older) c.handed + weight_of (weight_at older) c.next)) (weight_at older i)

-- the numbers from each of the cells on
abbrev pub lists_at : List Cell → List ℕ → List ℕ
lists_at cells [] = []
lists_at cells (i ∷ more) = list_at cells i ++ lists_at cells more

-- how many cells are passed for all of these
abbrev pub weights_at : List Cell → List ℕ → ℕ
weights_at cells [] = 0
weights_at cells (i ∷ more) = weight_at cells i + weights_at cells more

-- each is the number of a cell
abbrev pub AllCells : List Cell → List ℕ → Type 0
AllCells cells [] = Unit {0}
AllCells cells (i ∷ more) = (i < length cells) × AllCells cells more

-- an optional one before others
abbrev pub with_one : Option ℕ → List ℕ → List ℕ
with_one None more = more
with_one (Some i) more = i ∷ more

-- the cells of a stack that stand for those of another: the numbers that were put out come before the rest
pub record Passes (cells : List Cell) (stack : List ℕ) (out : List ℕ) (stack' : List ℕ) (out' : List ℕ) : Type 0 where
  pub numbers : out ++ lists_at cells stack ≡ out' ++ lists_at cells stack'
  pub within : AllCells cells stack'
  pub fewer : weights_at cells stack' < weights_at cells stack
