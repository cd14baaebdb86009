-- How a store is kept: a note of each event, its constraints by number, its firings, the list of the numbers that are
-- stored, and the rows. Where not said otherwise, lists stand newest first.
use Rattle.std.specs.Prelude.{◌≡◌, ℕ, zero, suc, ◌≤◌, Bool, true, false, cond, nat_eq, List, [], ◌∷◌, ◌++◌, length, reverse, slice_index_or, Option, Some, None}
use Rattle.watch_lists.specs.declared.Change.{Change}
use Rattle.watch_lists.specs.declared.Change.TheVariants.{Entered, Handed}
use Rattle.dance_list.specs.Dance.{Unlinked, undone, left_by}
use Rattle.dance_list.specs.declared.cells.Node.{Node}
use Rattle.suspend.specs.declared.constraint.Constraint.{Constraint}
use Rattle.suspend.specs.declared.constraint.Fired.{Fired}
use Rattle.suspend.specs.declared.note.Note.{Note}
use Rattle.suspend.specs.declared.note.Note.TheVariants.{Joins, Leaves, Fires, Heads, Becomes, Waits, Sleeps, Doubts, Rests}
use Rattle.suspend.specs.Store.{Event, joins, leaves, fires, heads, becomes, waits, sleeps, doubts, rests, added, is_stored}

-- the one of a number, which is how many are no newer
abbrev pub numbered : {A : Type 0} → List A → ℕ → Option A
numbered [] k = None
numbered (x ∷ older) k = cond (nat_eq (suc (length older)) k) (Some x) (numbered older k)

-- the log that notes tell, with the constraints that joined and the pairs that fired
abbrev pub told : {X : Type 0} → List Note → List (Constraint X) → List Fired → List (Event X)
told [] cs fs = []
told (Joins ∷ older) [] fs = []
told (Joins ∷ older) (c ∷ cs) fs = joins c ∷ told older cs fs
told (Leaves n ∷ older) cs fs = leaves n ∷ told older cs fs
told (Fires ∷ older) cs [] = []
told (Fires ∷ older) cs (f ∷ fs) = fires f ∷ told older cs fs
told (Heads v n ∷ older) cs fs = heads v n ∷ told older cs fs
told (Becomes v u ∷ older) cs fs = becomes v u ∷ told older cs fs
told (Waits n ∷ older) cs fs = waits n ∷ told older cs fs
told (Sleeps n ∷ older) cs fs = sleeps n ∷ told older cs fs
told (Doubts ∷ older) cs fs = doubts ∷ told older cs fs
told (Rests ∷ older) cs fs = rests ∷ told older cs fs

-- each joining put a constraint, its node and its number last, each leaving unlinked a node, and each firing put a pair
abbrev pub IsKept : {X : Type 0} → List Note → List (Constraint X) → List Fired → List Node → List (Node × ℕ) → List (Unlinked ℕ) → Type 0
IsKept [] cs fs ns ls us = (cs ≡ []) × (fs ≡ []) × (ns ≡ []) × (ls ≡ []) × (us ≡ [])
IsKept {X} (Joins ∷ older) cs fs ns ls us =
    (c : Constraint X) × (cs' : List (Constraint X)) × (n : Node) × (ns' : List Node) × (ls' : List (Node × ℕ))
    × (cs ≡ c ∷ cs') × (ns ≡ n ∷ ns') × (ls ≡ ls' ++ (n, suc (length cs')) ∷ []) × IsKept older cs' fs ns' ls' us
IsKept (Leaves k ∷ older) cs fs ns ls us =
    (u : Unlinked ℕ) × (us' : List (Unlinked ℕ)) × (us ≡ u ∷ us') × (u.1 ≡ k) × (numbered ns k ≡ Some u.0) × (ls ≡ left_by u) × IsKept older cs fs ns (undone u) us'
IsKept (Fires ∷ older) cs fs ns ls us = (f : Fired) × (fs' : List Fired) × (fs ≡ f ∷ fs') × IsKept older cs fs' ns ls us
IsKept (Heads v n ∷ older) cs fs ns ls us = IsKept older cs fs ns ls us
IsKept (Becomes v u ∷ older) cs fs ns ls us = IsKept older cs fs ns ls us
IsKept (Waits n ∷ older) cs fs ns ls us = IsKept older cs fs ns ls us
IsKept (Sleeps n ∷ older) cs fs ns ls us = IsKept older cs fs ns ls us
IsKept (Doubts ∷ older) cs fs ns ls us = IsKept older cs fs ns ls us
IsKept (Rests ∷ older) cs fs ns ls us = IsKept older cs fs ns ls us

-- the linked numbers are those of these constraints, in order, each at its node
abbrev pub Alike : {X : Type 0} → List (Constraint X) → List Node → List (Node × ℕ) → List (ℕ × Constraint X) → Type 0
Alike cs ns [] [] = Unit {0}
Alike cs ns [] (e ∷ es) = ⊥
Alike cs ns (l ∷ ls) [] = ⊥
Alike cs ns (l ∷ ls) (e ∷ es) = (l.1 ≡ e.0) × (numbered ns e.0 ≡ Some l.0) × (numbered cs e.0 ≡ Some e.1) × Alike cs ns ls es

-- the changes of the watch lists: a row was entered, or the rows of a variable were handed over
abbrev pub watched : List Note → List Change
watched [] = []
watched (Heads v n ∷ older) = Entered v n ∷ watched older
watched (Becomes v u ∷ older) = Handed v u ∷ watched older
watched (_ ∷ older) = watched older

-- the one of a number is marked; marks stand oldest first, and numbers begin with 1
abbrev pub stands_in : List Bool → ℕ → Bool
stands_in bs zero = false
stands_in bs (suc i) = slice_index_or bs i false

-- the stored numbers are marked
abbrev pub IsStanding : {X : Type 0} → List Bool → List (Event X) → Type 0
IsStanding bs log = (length bs ≡ added log) × ((n : ℕ) → stands_in bs n ≡ is_stored log n)

-- the note says that nothing is to be looked at
abbrev pub is_rests : Note → Bool
is_rests Rests = true
is_rests _ = false

-- the note says that all is to be looked at
abbrev pub is_doubts : Note → Bool
is_doubts Doubts = true
is_doubts _ = false

-- the newest note
abbrev pub newest_of : List Note → Option Note
newest_of [] = None
newest_of (x ∷ older) = Some x

-- the newest note says that nothing is to be looked at, or there is none
abbrev pub settled : List Note → Bool
settled [] = true
settled (x ∷ older) = is_rests x

-- the newest note says that all is to be looked at
abbrev pub doubted : List Note → Bool
doubted [] = false
doubted (x ∷ older) = is_doubts x

-- where there is a note there is room for one more, which may have been used to say that all is to be looked at
abbrev pub HasRoom : List Note → (spare : ℕ) → Type 0
HasRoom [] spare = Unit {0}
HasRoom (x ∷ older) spare = doubted (x ∷ older) ≡ false → 1 ≤ spare

-- all of it; here all lists but the linked one stand oldest first, and the unlinked ones and the changes newest first
pub record IsLedger {X : Type 0} (notes : List Note) (spare : ℕ) (cs : List (Constraint X)) (fs : List Fired) (places all : List Node) (ls : List (Node × ℕ)) (us : List (Unlinked ℕ)) (ws : List Change) (bs : List Bool) : Type 0 where
  pub kept : IsKept (reverse notes) (reverse cs) (reverse fs) (reverse places) ls us
  pub nodes : all ≡ places
  pub watches : ws ≡ watched (reverse notes)
  pub standing : IsStanding bs (told (reverse notes) (reverse cs) (reverse fs))
  pub room : HasRoom (reverse notes) spare
