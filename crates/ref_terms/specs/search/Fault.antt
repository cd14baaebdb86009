-- Faults, and answers that may be a fault.
use Rattle.std.specs.Prelude.{ℕ, List, ◌++◌, codes}
use Rattle.ref_terms.specs.unification.Problem.{UnifyFault, Redex_fault, Pattern_fault, Scope_fault}
use Rattle.ref_terms.specs.declared.fault.Fault.{Fault}
use Rattle.ref_terms.specs.declared.fault.Fault.TheVariants.{FlexGoal, FlexClause, NotGoal, Unknown, Arity, Redex, Pattern, Scope, Number}

-- the name under which a fault is printed
abbrev pub fault_name : Fault → List ℕ
fault_name FlexGoal = codes "flex-goal"
fault_name FlexClause = codes "flex-clause"
fault_name NotGoal = codes "not-goal"
fault_name Unknown = codes "unknown"
fault_name Arity = codes "arity"
fault_name Redex = codes "redex"
fault_name Pattern = codes "pattern"
fault_name Scope = codes "scope"
fault_name Number = codes "number"

-- the faults of unification among them
abbrev pub of_unification : UnifyFault → Fault
of_unification Redex_fault = Redex
of_unification Pattern_fault = Pattern
of_unification Scope_fault = Scope

-- a value, or the fault that decides
pub data Judged (A : Type 0) : Type 0 where
  Good : A → Judged A
  Bad : Fault → Judged A

-- a function on the value
abbrev pub judged_map : {A B : Type 0} → (A → B) → Judged A → Judged B
judged_map f (Good a) = Good (f a)
judged_map f (Bad e) = Bad e

-- both lists; the left fault decides
abbrev pub judged_append : {A : Type 0} → Judged (List A) → Judged (List A) → Judged (List A)
judged_append (Good xs) (Good ys) = Good (xs ++ ys)
judged_append (Good xs) (Bad e) = Bad e
judged_append (Bad e) r = Bad e
