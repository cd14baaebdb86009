-- Joint names of two sequents: identified, completed with new ones, and refused.
use Rattle.std.proofs.Common.{◌≡◌, ℕ, [], ◌∷◌, Some, None, refl}
use Rattle.ref_terms.specs.terms.Term.{Term, At, App, Name}
use Rattle.ref_terms.specs.declared.pair.Pair.{Pair}
use Rattle.ref_terms.specs.search.Branch.{Constraint}
use Rattle.ref_terms.specs.search.Joint.{joint}
use Rattle.ref_terms.proofs.Samples.{constant, variable}

-- a name
abbrev name : ℕ → Term
name n = At (Name n)

-- a constraint `c A B` under so many names
abbrev constraint : (names : ℕ) → Term → Term → Constraint
constraint names a b = record { number = 1; names = names; assumptions = []; term = App (App (constant 25) a) b; keys = [] }

-- the variable 0 applied to two names
abbrev spine : (m n : ℕ) → Term
spine m n = App (App (variable 0) (name m)) (name n)

-- the first arguments of the two heads
abbrev firsts : Pair
firsts = record { left_head = 0; left_arg = 0; right_head = 1; right_arg = 0 }

-- the second arguments of the two heads
abbrev seconds : Pair
seconds = record { left_head = 0; left_arg = 1; right_head = 1; right_arg = 1 }

-- without pairs all names stay apart
pub apart : joint [] (constraint 2 (name 0) (name 1) ∷ constraint 1 (name 0) (name 0) ∷ []) ≡ Some (record { names = 3; maps = (0 ∷ 1 ∷ []) ∷ (2 ∷ []) ∷ [] })
apart = refl

-- names at equal places of the spines are identified
pub swapped : joint (firsts ∷ []) (constraint 2 (spine 0 1) (name 0) ∷ constraint 2 (spine 1 0) (name 0) ∷ []) ≡ Some (record { names = 2; maps = (0 ∷ 1 ∷ []) ∷ (1 ∷ 0 ∷ []) ∷ [] })
swapped = refl

-- names that weren't identified follow in order
pub completed : joint (firsts ∷ []) (constraint 2 (spine 0 1) (name 0) ∷ constraint 4 (spine 3 1) (name 0) ∷ []) ≡ Some (record { names = 4; maps = (0 ∷ 1 ∷ []) ∷ (2 ∷ 1 ∷ 3 ∷ 0 ∷ []) ∷ [] })
completed = refl

-- one name would get two joint names
pub two_joint_names : joint (firsts ∷ seconds ∷ []) (constraint 3 (spine 0 1) (spine 2 1) ∷ constraint 2 (spine 0 1) (spine 0 1) ∷ []) ≡ None
two_joint_names = refl

-- two names would get the same joint name
pub same_joint_name : joint (firsts ∷ seconds ∷ []) (constraint 2 (spine 0 1) (spine 0 1) ∷ constraint 3 (spine 0 1) (spine 2 1) ∷ []) ≡ None
same_joint_name = refl

-- the arguments are headed by different variables
pub other_variable : joint (firsts ∷ []) (constraint 1 (variable 0) (name 0) ∷ constraint 1 (variable 1) (name 0) ∷ []) ≡ None
other_variable = refl

-- the spines have unequal lengths
pub unequal_lengths : joint (firsts ∷ []) (constraint 2 (spine 0 1) (name 0) ∷ constraint 1 (App (variable 0) (name 0)) (name 0) ∷ []) ≡ None
unequal_lengths = refl
