-- Which tuples of constraints a search for rule instances may leave out.
use Rattle.std.specs.Prelude.{◌≡◌, ℕ, suc, Bool, true, false, ◌||◌, List, [], ◌∷◌, filter, Option, None}
use Rattle.std.specs.List.{list_any}
use Rattle.ref_terms.specs.terms.Term.{Term}
use Rattle.ref_terms.specs.terms.Built.{IsBuilt}
use Rattle.ref_terms.specs.terms.Occurs.{occurs}
use Rattle.ref_terms.specs.unification.Problem.{Binding}
use Rattle.ref_terms.specs.search.Fault.{Judged}
use Rattle.ref_terms.specs.search.Program.{Rule}
use Rattle.ref_terms.specs.search.Assumption.{Assumption}
use Rattle.ref_terms.specs.search.Branch.{Constraint, Branch}
use Rattle.ref_terms.specs.search.Resolve.{Unification}
use Rattle.ref_terms.specs.search.RuleMatch.{heads_of}
use Rattle.ref_terms.specs.search.RuleInstance.{Firing, rule_instance}
use Rattle.ref_terms.specs.search.FirstRule.{tuples, or_later, first_tuple}
use Rattle.ref_terms.specs.search.Used.{Every, ConstraintBelow}

-- pairs of a rule's place and a constraint's number
abbrev pub Pairs : Type 0
Pairs = (place number : ℕ) → Bool

-- some constraint of the tuple has a pair with the rule
abbrev pub holds_pair : Pairs → (place : ℕ) → List Constraint → Bool
holds_pair pairs place cs = list_any (λ c. pairs place c.number) cs

-- a tuple without a pair is refused
abbrev pub IsLeftOut : Unification → Branch → Pairs → (place : ℕ) → Rule → List Constraint → Type 0
IsLeftOut unify branch pairs place r cs = holds_pair pairs place cs ≡ false → rule_instance unify branch place r cs ≡ None

-- each tuple that isn't refused, of the rules from this place on, holds a constraint whose pair with that rule is there
abbrev pub AllTouched : Unification → Branch → Pairs → (place : ℕ) → List Rule → Type 0
AllTouched unify branch pairs place [] = Unit {0}
AllTouched unify branch pairs place (r ∷ rs) = Every (IsLeftOut unify branch pairs place r) (tuples (heads_of r) branch.store) × AllTouched unify branch pairs (suc place) rs

-- a tuple that held a pair, and holds none of these, is refused
abbrev pub IsRefusedSince : Unification → Branch → (before now : Pairs) → (place : ℕ) → Rule → List Constraint → Type 0
IsRefusedSince unify branch before now place r cs = holds_pair before place cs ≡ true → holds_pair now place cs ≡ false → rule_instance unify branch place r cs ≡ None

-- so it is for all tuples of the rules from this place on
abbrev pub AllRefused : Unification → Branch → (before now : Pairs) → (place : ℕ) → List Rule → Type 0
AllRefused unify branch before now place [] = Unit {0}
AllRefused unify branch before now place (r ∷ rs) = Every (IsRefusedSince unify branch before now place r) (tuples (heads_of r) branch.store) × AllRefused unify branch before now (suc place) rs

-- the first instance or fault among the tuples that hold a pair
abbrev pub first_touched : Unification → Branch → Pairs → (place : ℕ) → List Rule → Option (Judged Firing)
first_touched unify branch pairs place [] = None
first_touched unify branch pairs place (r ∷ rs) = or_later
    (first_tuple unify branch place r (filter (holds_pair pairs place) (tuples (heads_of r) branch.store)))
    (first_touched unify branch pairs (suc place) rs)

-- a variable stands in an assumption
abbrev pub assumption_has : ℕ → Assumption → Bool
assumption_has v h = occurs v h.head || list_any (occurs v) h.conditions || occurs v h.assumed

-- a variable stands in a constraint, in its goal, its keys or its assumptions
abbrev pub constraint_has : ℕ → Constraint → Bool
constraint_has v c = list_any (assumption_has v) c.assumptions || occurs v c.term || list_any (occurs v) c.keys

-- one of the variables that are bound stands in a constraint
abbrev pub is_touched : List Binding → Constraint → Bool
is_touched bs c = list_any (λ b. constraint_has b.variable c) bs

-- the terms of an assumption are built
abbrev pub AssumptionBuilt : Assumption → Type 0
AssumptionBuilt h = IsBuilt h.head × Every IsBuilt h.conditions × IsBuilt h.assumed

-- the terms of a constraint are built
abbrev pub ConstraintBuilt : Constraint → Type 0
ConstraintBuilt c = Every AssumptionBuilt c.assumptions × IsBuilt c.term × Every IsBuilt c.keys

-- what is said of each constraint of a branch: its terms are built, and its variables are below the next one
abbrev pub IsSoundConstraint : (next_var : ℕ) → Constraint → Type 0
IsSoundConstraint next c = ConstraintBuilt c × ConstraintBelow next c
