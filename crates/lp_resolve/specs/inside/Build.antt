-- Parts of application and abstraction.
use Rattle.std.specs.Prelude.{ℕ, List, [], ◌∷◌, Option, Some, None, option_map}
use Rattle.ref_terms.specs.terms.Term.{Term, Lam, At, App, Con, Int, Str, Name, Bound, Var, Head}

-- the index of a head that is a bound name
abbrev pub index_of_head : Head → Option ℕ
index_of_head (Bound i) = Some i
index_of_head (Con c) = None
index_of_head (Int z) = None
index_of_head (Str s) = None
index_of_head (Name n) = None
index_of_head (Var v) = None

-- the index of a term that is a bound name
abbrev pub bound_index : Term → Option ℕ
bound_index (At h) = index_of_head h
bound_index (Lam b) = None
bound_index (App f a) = None

-- a term in front, where there is one
abbrev pub with_first : Option Term → Option (List Term) → Option (List Term)
with_first None rest = None
with_first (Some t) rest = option_map (λ ts. t ∷ ts) rest

-- all of them, where each is there
abbrev pub all_terms : List (Option Term) → Option (List Term)
all_terms [] = Some []
all_terms (t ∷ ts) = with_first t (all_terms ts)
