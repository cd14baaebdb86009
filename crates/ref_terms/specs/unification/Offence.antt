-- The first place at which a term can't be the value of a variable X, whose pattern spine has the names ns.
use Rattle.std.specs.Prelude.{ℕ, Bool, true, false, cond, not, nat_eq, nat_lt, List, [], ◌∷◌, ◌++◌, length, Option, Some, None}
use Rattle.std.specs.List.{list_any}
use Rattle.ref_terms.specs.terms.Term.{Head, Name, Var, Term, Lam, At, App}
use Rattle.ref_terms.specs.unification.Spine.{args_of, head_of}
use Rattle.ref_terms.specs.unification.Pattern.{SpineName, pattern_of}

-- what stands at that place: nothing offends, a stuck redex, X or a foreign name at a loose place,
-- X itself, a foreign name, or a foreign name at a position of another variable's pattern spine, of so many names
pub data Verdict : Type 0 where
  fine : Verdict
  redex : Verdict
  scope : Verdict
  itself : Verdict
  foreign : Verdict
  dropped : (variable position arity : ℕ) → Verdict

-- the first place decides
abbrev pub or_later : Verdict → Verdict → Verdict
or_later fine w = w
or_later v w = v

-- what the arguments of an application are: those of a rigid head, the pattern spine of an assignable variable
-- with so many arguments, or another spine of one, which makes the places inside loose
pub data Arguments : Type 0 where
  of_rigid : Arguments
  pattern_spine : (variable arity : ℕ) → Arguments
  other_spine : Arguments

-- the arguments of an assignable variable
abbrev pub of_flexible : ℕ → List Term → Option (List SpineName) → Arguments
of_flexible v xs None = other_spine
of_flexible v xs (Some ns) = pattern_spine v (length xs)

-- the arguments of a head; frozen variables, which are those below the mark m, are rigid
abbrev pub arguments : (m : ℕ) → Option Head → List Term → Arguments
arguments m (Some (Var v)) xs = cond (nat_lt v m) of_rigid (of_flexible v xs (pattern_of xs))
arguments m _ xs = of_rigid

-- whether a name in a pattern spine is foreign; an index that the term binds never is
abbrev pub is_foreign : (ns : List ℕ) → Term → Bool
is_foreign ns (At (Name n)) = not (list_any (nat_eq n) ns)
is_foreign ns _ = false

-- a head
abbrev pub head_verdict : (x : ℕ) → (ns : List ℕ) → (loose : Bool) → Head → Verdict
head_verdict x ns loose (Var v) = cond (nat_eq x v) (cond loose scope itself) fine
head_verdict x ns loose (Name n) = cond (list_any (nat_eq n) ns) fine (cond loose scope foreign)
head_verdict x ns loose _ = fine

-- the argument at position i of the pattern spine of v, which has n names
abbrev pub spine_verdict : (ns : List ℕ) → (loose : Bool) → (v i n : ℕ) → Term → Verdict
spine_verdict ns loose v i n a = cond (is_foreign ns a) (cond loose scope (dropped v i n)) fine

abbrev mutual
  -- a term: a head comes before its arguments, and these from left to right
  pub offence : (m x : ℕ) → (ns : List ℕ) → (loose : Bool) → Term → Verdict
  offence m x ns loose (Lam b) = offence m x ns loose b
  offence m x ns loose (At h) = head_verdict x ns loose h
  offence m x ns loose (App f a) =
      let k = arguments m (head_of f) (args_of f ++ a ∷ []) in
      or_later (along m x ns loose k f)
      (elim k [ of_rigid ↦ offence m x ns loose a | pattern_spine v n ↦ spine_verdict ns loose v (length (args_of f)) n a | other_spine ↦ offence m x ns true a ])

  -- the front part of an application, whose arguments are of this kind
  pub along : (m x : ℕ) → (ns : List ℕ) → (loose : Bool) → Arguments → Term → Verdict
  along m x ns loose k (Lam b) = redex
  along m x ns loose k (At h) = head_verdict x ns loose h
  along m x ns loose k (App f a) =
      or_later (along m x ns loose k f)
      (elim k [ of_rigid ↦ offence m x ns loose a | pattern_spine v n ↦ spine_verdict ns loose v (length (args_of f)) n a | other_spine ↦ offence m x ns true a ])
