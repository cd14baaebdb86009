-- Binding a variable of the heap.
use Rattle.std.specs.Prelude.{◌≡◌, ℕ, ◌<◌, true, false, List, length, None}
use Rattle.std.specs.List.{list_any}
use Rattle.std.specs.Prelude.{nat_eq}
use Rattle.level_terms.specs.Graph.{Graph, value_in}
use Rattle.level_terms.specs.Reading.{read}
use Rattle.ref_terms.specs.terms.Term.{Term}
use Rattle.ref_terms.specs.terms.Instance.{inst}
use Rattle.ref_terms.specs.terms.Occurs.{has_name}

-- a variable that is there and has no value
pub record IsOpen (g : Graph) (v : ℕ) : Type 0 where
  pub there : v < length g.depths
  pub free : value_in g.assigned v ≡ None

-- each node means what it meant, with a value in the place of the variable
abbrev pub IsBound : (old new : Graph) (v : ℕ) (value : Term) → Type 0
IsBound old new v value = (t : ℕ) (env : ℕ → Term) → t < length old.nodes → read new t env ≡ inst v value (read old t env)

-- each name of the term is in the list
abbrev pub NamesAmong : List ℕ → Term → Type 0
NamesAmong ns u = (n : ℕ) → has_name n u ≡ true → list_any (nat_eq n) ns ≡ true

-- no other variable gets a value
abbrev pub LeavesOthers : (v : ℕ) → (old new : Graph) → Type 0
LeavesOthers v old new = (w : ℕ) → nat_eq v w ≡ false → value_in new.assigned w ≡ value_in old.assigned w

-- no variable below the mark gets a value
abbrev pub LeavesFrozen : (mark : ℕ) → (old new : Graph) → Type 0
LeavesFrozen mark old new = (w : ℕ) → w < mark → value_in new.assigned w ≡ value_in old.assigned w
