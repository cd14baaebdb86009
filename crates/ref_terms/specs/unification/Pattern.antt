-- Pattern spines: distinct names without arguments.
use Rattle.std.specs.Prelude.{ℕ, Bool, false, cond, nat_eq, List, [], ◌∷◌, Option, Some, None}
use Rattle.std.specs.List.{list_any}
use Rattle.ref_terms.specs.terms.Term.{Name, Bound, Term, At}

-- a name; inside a term its own bound indices count as names too
pub data SpineName : Type 0 where
  of_name : ℕ → SpineName
  of_bound : ℕ → SpineName

-- whether both are one name
abbrev pub same_name : SpineName → SpineName → Bool
same_name (of_name a) (of_name b) = nat_eq a b
same_name (of_bound a) (of_bound b) = nat_eq a b
same_name _ _ = false

-- the name that an argument is
abbrev pub spine_name : Term → Option SpineName
spine_name (At (Name n)) = Some (of_name n)
spine_name (At (Bound i)) = Some (of_bound i)
spine_name _ = None

-- one more name in front, if it isn't among them
abbrev pub add_distinct : Option SpineName → Option (List SpineName) → Option (List SpineName)
add_distinct (Some x) (Some xs) = cond (list_any (same_name x) xs) None (Some (x ∷ xs))
add_distinct _ _ = None

-- the names of a spine, where it is a pattern
abbrev pub pattern_of : List Term → Option (List SpineName)
pattern_of [] = Some []
pattern_of (t ∷ ts) = add_distinct (spine_name t) (pattern_of ts)

-- those that are names in scope; in an equation, where no index is free, these are all
abbrev pub names_of : List SpineName → List ℕ
names_of [] = []
names_of (of_name n ∷ xs) = n ∷ names_of xs
names_of (of_bound i ∷ xs) = names_of xs
