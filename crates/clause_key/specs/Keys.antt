-- Keys of arguments.
use Rattle.std.specs.Prelude.{ℕ, Bool, true, false, ◌||◌, cond, nat_eq, nat_lt, List, [], ◌∷◌, length, replicate, Option, Some, None, unwrap_or}
use Rattle.std.specs.Option.{option_map_or}
use Rattle.std.specs.Ordering.{int_eq}
use Rattle.ref_terms.specs.terms.Term as term
use Rattle.ref_terms.specs.terms.Term.{Term}
use Rattle.ref_terms.specs.unification.Shape.{Shape, Abstraction, Redex, Rigid, Flex, shape}
use Rattle.ref_terms.specs.unification.Spine.{head_of, args_of}
use Rattle.ref_terms.specs.search.Program.{Program, constant_of}
use Rattle.ref_terms.specs.search.Next.{constant_modes}
use Rattle.ref_terms.specs.search.Assumption.{Assumption}
use Rattle.clause_key.specs.declared.key.Key.{Key}
use Rattle.clause_key.specs.declared.key.Key.TheVariants.{Any, Con, Int, Str, Level, Lam}

-- the key of a head; no index is free in an argument
abbrev pub key_of_head : term.Head → Key
key_of_head (term.Con c) = Con (record { 0 = c })
key_of_head (term.Int n) = Int n
key_of_head (term.Str s) = Str (record { 0 = s })
key_of_head (term.Name n) = Level n
key_of_head (term.Bound i) = Any
key_of_head (term.Var v) = Any

-- by what the rules of unification look at
abbrev pub key_of_shape : Shape → Key
key_of_shape Abstraction = Lam
key_of_shape Redex = Any
key_of_shape (Rigid h xs) = key_of_head h
key_of_shape (Flex v xs) = Any

-- the key of a term: its head, where that is rigid
abbrev pub key_of : Term → Key
key_of t = key_of_shape (shape 0 t)

-- the first input among arguments, if there is one
abbrev pub first_input : {A : Type 0} → (inputs : List Bool) → List A → Option A
first_input (true ∷ ms) (t ∷ ts) = Some t
first_input (false ∷ ms) (t ∷ ts) = first_input ms ts
first_input _ _ = None

-- this one, or else the first of a list
abbrev pub or_first : {A : Type 0} → Option A → List A → Option A
or_first (Some t) ts = Some t
or_first None [] = None
or_first None (t ∷ ts) = Some t

-- the argument that has the key: the first input, or else the first argument
abbrev pub key_argument : {A : Type 0} → (inputs : List Bool) → List A → Option A
key_argument inputs ts = or_first (first_input inputs ts) ts

-- the key among arguments of which these are inputs; without arguments it is `Any`
abbrev pub key_among : (inputs : List Bool) → List Term → Key
key_among inputs ts = option_map_or key_of (key_argument inputs ts) Any

-- the key of an atom, a goal or the head of a clause
abbrev pub atom_key : Program → Term → Key
atom_key p t = key_among (unwrap_or (constant_modes p (constant_of (head_of t))) []) (args_of t)

-- a key that agrees with every other
abbrev pub fits_every : Key → Bool
fits_every Any = true
fits_every (Con c) = false
fits_every (Int n) = false
fits_every (Str s) = false
fits_every (Level l) = false
fits_every Lam = true

-- whether two keys are one
abbrev pub same_key : Key → Key → Bool
same_key Any Any = true
same_key (Con a) (Con b) = nat_eq a.0 b.0
same_key (Int a) (Int b) = int_eq a b
same_key (Str a) (Str b) = nat_eq a.0 b.0
same_key (Level a) (Level b) = nat_eq a b
same_key Lam Lam = true
same_key _ _ = false

-- whether a goal with one key may be solved by a clause with the other
abbrev pub agree : (goal clause : Key) → Bool
agree goal clause = fits_every goal || fits_every clause || same_key clause goal

-- which arguments of an atom are inputs: without stated modes none is
abbrev pub inputs_for : Option (List Bool) → Term → List Bool
inputs_for modes t = unwrap_or modes (replicate (length (args_of t)) false)

-- a key where the levels from `scope` on may become anything
abbrev pub fixed_key : (scope : ℕ) → Key → Key
fixed_key scope (Level l) = cond (nat_lt l scope) (Level l) Any
fixed_key scope Any = Any
fixed_key scope (Con c) = Con c
fixed_key scope (Int n) = Int n
fixed_key scope (Str s) = Str s
fixed_key scope Lam = Lam

-- the key of an assumption: its parameters may become anything
abbrev pub assumption_key : (inputs : List Bool) → Assumption → Key
assumption_key inputs a = fixed_key a.scope (key_among inputs (args_of a.head))
