-- When a name of a sequent may get a joint name, and what a rule's pairs identify of one sequent.
use Rattle.std.specs.Prelude.{ℕ, suc, Bool, true, not, ◌&&◌, cond, nat_eq, List, [], ◌∷◌, Option, Some, None}
use Rattle.ref_terms.specs.declared.pair.Pair.{Pair}
use Rattle.ref_terms.specs.search.Branch.{Constraint}
use Rattle.ref_terms.specs.search.Joint.{aligned}

-- what one name has allows that another one or itself gets a joint name: it has none, or this one and is it, or another one and is another one
abbrev pub allowed : (is_own : Bool) → (joint : ℕ) → Option ℕ → Bool
allowed b joint None = true
allowed b joint (Some z) = cond b (nat_eq joint z) (not (nat_eq joint z))

-- so do the names from the i-th on
abbrev pub all_allowed : (own joint i : ℕ) → List (Option ℕ) → Bool
all_allowed own joint i [] = true
all_allowed own joint i (m ∷ ms) = allowed (nat_eq own i) joint m && all_allowed own joint (suc i) ms

-- what a pair identifies of the i-th head, where it is that head's
abbrev pub aligned_at : List Constraint → List (List ℕ) → (i : ℕ) → Pair → Option (List (Option ℕ)) → Option (List (Option ℕ))
aligned_at cs maps i p o = cond (nat_eq p.right_head i) (aligned cs maps p o) o

-- what pairs identify of it, from the left
abbrev pub all_aligned_at : List Constraint → List (List ℕ) → (i : ℕ) → List Pair → Option (List (Option ℕ)) → Option (List (Option ℕ))
all_aligned_at cs maps i [] o = o
all_aligned_at cs maps i (p ∷ ps) o = all_aligned_at cs maps i ps (aligned_at cs maps i p o)
