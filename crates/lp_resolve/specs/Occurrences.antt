-- The places of a tree at which variables stand, from the left, a head before its arguments.
use Rattle.std.specs.Prelude.{ℕ, Bool, true, false, ◌&&◌, not, nat_eq, List, [], ◌∷◌, ◌++◌, map, flat_map, Option, Some, None}
use Rattle.std.specs.List.{list_any}
use Rattle.ref_terms.specs.declared.tree.Tree.{Tree, fold-Tree}
use Rattle.ref_terms.specs.declared.tree.Head.{Head, fold-Head}
use Rattle.ref_terms.specs.declared.tree.Head.TheOpen.{Head-F, Tree-F}

-- a variable at one of its places, and for each argument there the index of the bound name that it is, if it is one
pub record Occurrence : Type 0 where
  pub variable : ℕ
  pub spine : List (Option ℕ)

-- what is known of a head: it is a variable, a bound name, a stuck abstraction with these places inside, or another one
pub data Front : Type 0 where
  variable : ℕ → Front
  bound_name : ℕ → Front
  stuck : List Occurrence → Front
  other : Front

-- what is known of a tree: the bound name that it is, if it is one, and its places
pub record Walked : Type 0 where
  pub name : Option ℕ
  pub places : List Occurrence

-- a head, what it holds already walked
abbrev pub front_at : Head-F Front Walked → Front
front_at (Head-F.Con c) = other
front_at (Head-F.Int z) = other
front_at (Head-F.Str s) = other
front_at (Head-F.Bound i) = bound_name i
front_at (Head-F.ClauseVar v) = variable v
front_at (Head-F.Stuck abstraction) = stuck abstraction.places

-- the places at the head itself
abbrev pub front_places : Front → List (Option ℕ) → List Occurrence
front_places (variable v) spine = record { variable = v; spine = spine } ∷ []
front_places (stuck places) spine = places
front_places _ spine = []

-- the bound name that a head without arguments is
abbrev pub name_at : Front → List Walked → Option ℕ
name_at (bound_name i) [] = Some i
name_at _ _ = None

-- a tree, what it holds already walked
abbrev pub walked_at : Tree-F Front Walked → Walked
walked_at (Tree-F.Lam body) = record { name = None; places = body.places }
walked_at (Tree-F.Ap head args) = record {
  name = name_at head args;
  places = front_places head (map (λ a. a.name) args) ++ flat_map (λ a. a.places) args;
}

-- what is known of a tree
abbrev pub walked : Tree → Walked
walked = fold-Tree Front Walked front_at walked_at

-- what is known of a head
abbrev pub head_walked : Head → Front
head_walked = fold-Head Front Walked front_at walked_at

-- the variables of a tree at their places, from the left
abbrev pub occurrences : Tree → List Occurrence
occurrences t = (walked t).places

-- no argument is this bound name
abbrev pub is_unused : ℕ → List (Option ℕ) → Bool
is_unused i [] = true
is_unused i (None ∷ names) = is_unused i names
is_unused i (Some j ∷ names) = not (nat_eq i j) && is_unused i names

-- the arguments are distinct bound names
abbrev pub are_distinct_names : List (Option ℕ) → Bool
are_distinct_names [] = true
are_distinct_names (None ∷ names) = false
are_distinct_names (Some i ∷ names) = is_unused i names && are_distinct_names names
