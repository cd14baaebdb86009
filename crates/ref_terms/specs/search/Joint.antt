-- Joint names of constraints, by alignment.
use Rattle.std.specs.Prelude.{ℕ, zero, suc, ◌+◌, cond, nat_eq, List, [], ◌∷◌, ◌++◌, replicate, filter, Option, Some, None, option_map, option_and_then, slice_get, slice_index}
use Rattle.ref_terms.specs.terms.Term.{Term, At, Head, Name}
use Rattle.ref_terms.specs.terms.Apply.{fill}
use Rattle.ref_terms.specs.unification.Shape.{Shape, Flex, shape}
use Rattle.ref_terms.specs.unification.Spine.{args_of}
use Rattle.ref_terms.specs.unification.Pattern.{pattern_of, names_of}
use Rattle.ref_terms.specs.unification.Closing.{names_below}
use Rattle.ref_terms.specs.declared.pair.Pair.{Pair}
use Rattle.ref_terms.specs.search.Branch.{Constraint}

-- for each head the joint names of its own names, in their order
pub record Joint : Type 0 where
  pub names : ℕ
  pub maps : List (List ℕ)

-- the spine of a variable, where it is a pattern
abbrev pub spine_names : Shape → Option (ℕ × List ℕ)
spine_names (Flex v ts) = option_map (λ ms. (v, names_of ms)) (pattern_of ts)
spine_names _ = None

-- the names at equal places of two spines of one variable of equal length
abbrev pub paired : List ℕ → List ℕ → Option (List (ℕ × ℕ))
paired [] [] = Some []
paired (x ∷ xs) (y ∷ ys) = option_map (λ ps. (x, y) ∷ ps) (paired xs ys)
paired _ _ = None

-- the same, where both are spines of one variable
abbrev pub paired_spines : Option (ℕ × List ℕ) → Option (ℕ × List ℕ) → Option (List (ℕ × ℕ))
paired_spines (Some s) (Some t) = cond (nat_eq s.0 t.0) (paired s.1 t.1) None
paired_spines _ _ = None

-- the i-th argument of a constraint's goal
abbrev pub argument : Constraint → ℕ → Option Term
argument c i = slice_get (args_of c.term) i

-- the pattern spine at the i-th argument
abbrev pub spine_at : ℕ → Option Constraint → Option (ℕ × List ℕ)
spine_at i c = option_and_then (λ t. spine_names (shape 0 t)) (option_and_then (λ k. argument k i) c)

-- one name of a head gets a joint name: none where it has another, or where another name has this one
abbrev pub gets_joint : (own joint i : ℕ) → List (Option ℕ) → Option (List (Option ℕ))
gets_joint own joint i [] = Some []
gets_joint own joint i (Some z ∷ ms) = cond (nat_eq own i)
    (cond (nat_eq joint z) (option_map (λ r. Some z ∷ r) (gets_joint own joint (suc i) ms)) None)
    (cond (nat_eq joint z) None (option_map (λ r. Some z ∷ r) (gets_joint own joint (suc i) ms)))
gets_joint own joint i (None ∷ ms) = option_map (λ r. cond (nat_eq own i) (Some joint) None ∷ r) (gets_joint own joint (suc i) ms)

-- the joint names of the i-th head
abbrev pub map_at : List (List ℕ) → ℕ → List ℕ
map_at [] i = []
map_at (m ∷ ms) zero = m
map_at (m ∷ ms) (suc i) = map_at ms i

-- the pairs of names, from the left, where the left ones have these joint names
abbrev pub identified : List ℕ → List (ℕ × ℕ) → Option (List (Option ℕ)) → Option (List (Option ℕ))
identified left [] o = o
identified left (p ∷ ps) o = identified left ps (option_and_then (gets_joint p.1 (slice_index left p.0) 0) o)

-- what one pair of the rule identifies
abbrev pub aligned : List Constraint → List (List ℕ) → Pair → Option (List (Option ℕ)) → Option (List (Option ℕ))
aligned cs maps p o = option_and_then (λ ps. identified (map_at maps p.left_head) ps o) (paired_spines (spine_at p.left_arg (slice_get cs p.left_head)) (spine_at p.right_arg (slice_get cs p.right_head)))

-- what the pairs identify, from the left
abbrev pub all_aligned : List Constraint → List (List ℕ) → List Pair → Option (List (Option ℕ)) → Option (List (Option ℕ))
all_aligned cs maps [] o = o
all_aligned cs maps (p ∷ ps) o = all_aligned cs maps ps (aligned cs maps p o)

-- the names that weren't identified become joint names, in order, from `next` on
abbrev pub completed : (next : ℕ) → List (Option ℕ) → List ℕ
completed next [] = []
completed next (Some z ∷ ms) = z ∷ completed next ms
completed next (None ∷ ms) = next ∷ completed (suc next) ms

-- how many names weren't identified
abbrev pub missing : List (Option ℕ) → ℕ
missing [] = 0
missing (Some z ∷ ms) = missing ms
missing (None ∷ ms) = suc (missing ms)

-- one more head with its joint names
abbrev pub with_head : Joint → List (Option ℕ) → Joint
with_head j ms = record { names = j.names + missing ms; maps = j.maps ++ completed j.names ms ∷ [] }

-- the heads from the i-th on; `all` are the constraints of all heads
abbrev pub joined : List Constraint → List Pair → (i : ℕ) → List Constraint → Joint → Option Joint
joined all pairs i [] j = Some j
joined all pairs i (c ∷ cs) j = option_and_then (λ ms. joined all pairs (suc i) cs (with_head j ms))
    (all_aligned all j.maps (filter (λ p. nat_eq p.right_head i) pairs) (Some (replicate c.names None)))

-- the joint names of these constraints; the first head keeps its names
abbrev pub joint : List Pair → List Constraint → Option Joint
joint pairs [] = None
joint pairs (c ∷ cs) = joined (c ∷ cs) pairs 1 cs (record { names = c.names; maps = names_below c.names ∷ [] })

-- the joint name in place of a name
abbrev pub joint_head : List ℕ → Head → Term
joint_head names (Name n) = At (Name (slice_index names n))
joint_head names h = At h

-- a term of a constraint over the joint names
abbrev pub over_joint : List ℕ → Term → Term
over_joint names t = fill (joint_head names) t
