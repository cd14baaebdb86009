-- Constraints that are woken, and goals that are suspended.
use Rattle.std.specs.Prelude.{◌≡◌, ℕ, not, List, [], ◌∷◌, ◌++◌, map, filter, length, if◌then◌else◌, Option, Some, None}
use Rattle.level_terms.specs.Graph.{Graph}
use Rattle.level_terms.specs.Reading.{read}
use Rattle.level_terms.specs.Valid.{IsValid}
use Rattle.beta_fragment.specs.Names.{names}
use Rattle.ref_terms.specs.terms.Term.{Term, At, App, Con}
use Rattle.ref_terms.specs.search.Branch.{Constraint, Branch}
use Rattle.ref_terms.specs.search.Lists.{items_of, before}
use Rattle.ref_terms.specs.search.Next.{is_awake, woken_goal, woken}
use Rattle.search_moves.specs.declared.frame.Frame.{Frame}
use Rattle.search_moves.specs.declared.suspending.ListForm.{ListForm}
use Rattle.search_moves.specs.declared.suspending.ListForm.TheVariants.{End, Item, Other}
use Rattle.search_moves.specs.World.{IsContextAt, code_nodes}
use Rattle.search_moves.specs.Reading.{goal_in}
use Rattle.search_moves.specs.Machine.{Machine, branch_of, IsFirst, LeavesAlternatives}

-- the number of the first awake constraint
abbrev pub first_up : List Constraint → Option ℕ
first_up [] = None
first_up (c ∷ cs) = if is_awake c then Some c.number else first_up cs

-- the awake ones, in order
abbrev pub up_in : Branch → List Constraint
up_in b = filter is_awake b.store

-- those that sleep on
abbrev pub asleep_in : Branch → List Constraint
asleep_in b = filter (λ c. not (is_awake c)) b.store

-- goals and their assumptions are valid at their names
abbrev pub AllGoalsAt : Graph → List Frame → Type 0
AllGoalsAt g [] = Unit {0}
AllGoalsAt g (f ∷ fs) = IsValid g f.term.index f.depth × IsContextAt g f.depth f.context × AllGoalsAt g fs

-- the branch is as before but for its store
abbrev pub HasOtherStore : (old new : Machine) → Type 0
HasOtherStore old new = branch_of new ≡ record (branch_of old) { store = (branch_of new).store }

-- the first awake constraint has left the store, and this is its goal
pub record WakesOne (barrier : ℕ) (old new : Machine) (f : Frame) : Type 0 where
  pub constraint : Constraint
  pub goal : goal_in new.world.heap f ≡ woken_goal barrier constraint
  pub first : up_in (branch_of old) ≡ constraint ∷ up_in (branch_of new)
  pub asleep : asleep_in (branch_of new) ≡ asleep_in (branch_of old)
  pub rest : HasOtherStore old new
  pub valid : AllGoalsAt new.world.heap (f ∷ [])

-- no constraint is awake, and the branch is as it was
pub record SleepsOn (old new : Machine) : Type 0 where
  pub none : up_in (branch_of old) ≡ []
  pub branch : branch_of new ≡ branch_of old

-- these goals are those of the first awake constraints, which have left the store
pub record IsWaking (barrier : ℕ) (old new : Machine) (fs : List Frame) : Type 0 where
  pub goals : map (goal_in new.world.heap) fs ++ map (woken_goal barrier) (up_in (branch_of new))
      ≡ map (woken_goal barrier) (up_in (branch_of old))
  pub asleep : asleep_in (branch_of new) ≡ asleep_in (branch_of old)
  pub rest : HasOtherStore old new
  pub valid : AllGoalsAt new.world.heap fs

-- all awake constraints are the first goals, with the number of alternatives as barrier
pub record HasWoken (old new : Machine) : Type 0 where
  pub first : Constraint
  pub others : List Constraint
  pub up : up_in (branch_of old) ≡ first ∷ others
  pub branch : branch_of new ≡ woken (branch_of old) (length old.saved) (first ∷ others)

-- the form shows what a term is as a list
abbrev pub IsListForm : Graph → (depth : ℕ) → Term → ListForm → Type 0
IsListForm g depth u End = u ≡ At (Con 18)
IsListForm g depth u (Item a b) = IsValid g a.index depth × IsValid g b.index depth × (u ≡ App (App (At (Con 19)) (read g a.index names)) (read g b.index names))
IsListForm g depth u Other = items_of u ≡ None

-- the items of a list of this form
abbrev pub items_left : Graph → ListForm → Option (List Term)
items_left g End = Some []
items_left g (Item a b) = before (Some (read g a.index names)) (items_of (read g b.index names))
items_left g Other = None

-- items before those that are left
abbrev pub after_items : List Term → Option (List Term) → Option (List Term)
after_items ts None = None
after_items ts (Some us) = Some (ts ++ us)

-- the parts of a list are valid
abbrev pub ListFits : Graph → (depth : ℕ) → ListForm → Type 0
ListFits g depth End = Unit {0}
ListFits g depth (Item a b) = IsValid g a.index depth × IsValid g b.index depth
ListFits g depth Other = Unit {0}

-- each node that was valid reads as it did, and the machine goes on as it was
pub record StaysAt (old : Machine) (f : Frame) (new : Machine) : Type 0 where
  pub first : IsFirst new f
  pub readings : (i : ℕ) (d : ℕ) → IsValid old.world.heap i d → read new.world.heap i names ≡ read old.world.heap i names
  pub valid : (i : ℕ) (d : ℕ) → IsValid old.world.heap i d → IsValid new.world.heap i d
  pub branch : branch_of new ≡ branch_of old
  pub saved : new.saved ≡ old.saved
  pub phase : new.phase ≡ old.phase
  pub code : code_nodes new.world ≡ code_nodes old.world
  pub alternatives : LeavesAlternatives old new
