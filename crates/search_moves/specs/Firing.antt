-- Rules that fire, and the constraints that they take out of the store.
use Rattle.std.specs.Prelude.{◌≡◌, ℕ, Bool, false, true, not, nat_eq, List, [], ◌∷◌, filter}
use Rattle.std.specs.List.{list_any}
use Rattle.level_terms.specs.Valid.{IsValid}
use Rattle.ref_terms.specs.search.Branch.{Constraint}
use Rattle.ref_terms.specs.search.RuleInstance.{is_fired}
use Rattle.ref_terms.specs.search.Used.{Every}
use Rattle.sequent_rules.specs.declared.firing.Firing.{Firing}
use Rattle.search_moves.specs.World.{IsContextAt}
use Rattle.search_moves.specs.Machine.{Machine, branch_of}

-- one of the constraints has this number
abbrev pub has_number : List Constraint → ℕ → Bool
has_number cs n = list_any (λ c. nat_eq n c.number) cs

-- the constraints without that of a number
abbrev pub without_number : ℕ → List Constraint → List Constraint
without_number n cs = filter (λ c. not (nat_eq c.number n)) cs

-- the constraints without those of these numbers
abbrev pub without_numbers : List ℕ → List Constraint → List Constraint
without_numbers ns cs = filter (λ c. not (list_any (nat_eq c.number) ns)) cs

-- no two of the numbers are equal
abbrev pub AllDiffer : List ℕ → Type 0
AllDiffer [] = Unit {0}
AllDiffer (n ∷ ns) = Every (λ m. nat_eq n m ≡ false) ns × AllDiffer ns

-- numbers of distinct constraints of these
pub record AreRemovable (cs : List Constraint) (ns : List ℕ) : Type 0 where
  pub there : Every (λ n. has_number cs n ≡ true) ns
  pub differ : AllDiffer ns

-- the firing can be made: its rule didn't fire on these constraints, those that it removes are in the store, and its body and assumptions are a goal's
pub record CanFire (m : Machine) (f : Firing) : Type 0 where
  pub not_yet : is_fired (record { rule = f.rule; constraints = f.constraints.items }) (branch_of m).fired ≡ false
  pub removable : AreRemovable (branch_of m).store f.removed.items
  pub body : IsValid m.world.heap f.body.index f.names
  pub context : IsContextAt m.world.heap f.names f.context
