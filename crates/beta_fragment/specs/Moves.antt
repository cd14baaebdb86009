-- Levels that are moved: those below a base are names, and those from it on are bound in the term.
use Rattle.std.specs.Prelude.{◌≡◌, ℕ, ◌+◌, ◌-◌, ◌<◌, ◌≤◌, cond, nat_lt, nat_eq, List, length, slice_index, true, false, [], ◌∷◌, suc}
use Rattle.level_terms.specs.Graph.{Graph}
use Rattle.level_terms.specs.Laws.{ArePlaces}
use Rattle.level_terms.specs.Reading.{read, levels}
use Rattle.ref_terms.specs.terms.Term.{Term, Head, At, Var, Name}
use Rattle.ref_terms.specs.terms.Apply.{fill}
use Rattle.ref_terms.specs.terms.Occurs.{is_name, has_name}
use Rattle.ref_terms.specs.unification.Spine.{apply_all}
use Rattle.level_terms.specs.Values.{Value, IsLevelOf}
use Rattle.beta_fragment.specs.Names.{AllBelow}

-- where a level goes: a name to the one that the list has for it, a bound level as far above `to` as it was above the base
abbrev pub moved_level : List ℕ → (base to : ℕ) → ℕ → ℕ
moved_level ns base to i = cond (nat_lt i base) (slice_index ns i) (i - base + to)

-- what the levels stand for before they are moved
abbrev pub moved : List ℕ → (base to : ℕ) → (ℕ → Term) → ℕ → Term
moved ns base to env i = env (moved_level ns base to i)

-- the names that are given lie below `to`, and those below `fixed` stay
pub record IsMove (ns : List ℕ) (fixed to : ℕ) : Type 0 where
  pub below : AllBelow ns to
  pub few : fixed ≤ length ns
  pub low : fixed ≤ to
  pub stay : (i : ℕ) → i < fixed → slice_index ns i ≡ i

-- a node that was valid at a source depth, with its levels moved
pub record Moves (g : Graph) (ns : List ℕ) (to t base source : ℕ) (x : Value) : Type 0 where
  pub term : (env : ℕ → Term) → ArePlaces env → x.term env ≡ read g t (moved ns base to env)
  pub holds : (e : ℕ) → source - base + to ≤ e → x.holds e ≡ true

-- levels from k on, moved
abbrev pub AreLevelsOf : List ℕ → (base to k : ℕ) → List Value → Type 0
AreLevelsOf ns base to k [] = Unit {0}
AreLevelsOf ns base to k (x ∷ xs) = IsLevelOf (moved_level ns base to k) x × AreLevelsOf ns base to (suc k) xs

-- a variable that has no value, applied to the levels below its depth, moved
pub record IsMovedVar (ns : List ℕ) (base to v depth : ℕ) (x : Value) : Type 0 where
  pub term : (env : ℕ → Term) → ArePlaces env → x.term env ≡ apply_all (At (Var v)) (levels depth (moved ns base to env))
  pub holds : (e : ℕ) → ((i : ℕ) → i < depth → moved_level ns base to i < e) → x.holds e ≡ true

-- how a walk moves levels: by names, as above; or with a term in the place of one level, and the levels above it one lower
pub data Plan : Type 0 where
  naming : (names : List ℕ) → (to : ℕ) → Plan
  putting : (term : (ℕ → Term) → Term) → (level : ℕ) → Plan

-- what the levels stand for before one is taken out, which stands for the name of its number
abbrev pub around : (level : ℕ) → (ℕ → Term) → ℕ → Term
around level env i = cond (nat_lt i level) (env i) (cond (nat_eq i level) (At (Name level)) (env (i - 1)))

-- a term in the place of a name
abbrev pub put_name : ℕ → Term → Head → Term
put_name n s h = cond (is_name n h) s (At h)

-- the name stands in no term
abbrev pub Lacks : ℕ → (ℕ → Term) → Type 0
Lacks n env = (i : ℕ) → has_name n (env i) ≡ false

-- a node with a term in the place of a level
pub record Puts (g : Graph) (put : (ℕ → Term) → Term) (level t source : ℕ) (x : Value) : Type 0 where
  pub term : (env : ℕ → Term) → ArePlaces env → Lacks level env → x.term env ≡ fill (put_name level (put env)) (read g t (around level env))
  pub holds : (e : ℕ) → source - 1 ≤ e → x.holds e ≡ true

-- a node that was moved by a plan
abbrev pub Does : Graph → Plan → (t base source : ℕ) → Value → Type 0
Does g (naming ns to) t base source x = Moves g ns to t base source x
Does g (putting put level) t base source x = Puts g put level t source x

-- the base fits the depth, and the names
abbrev pub IsLow : Plan → (base source : ℕ) → Type 0
IsLow (naming ns to) base source = base ≤ source
IsLow (putting put level) base source = level < source

abbrev pub HasFew : Plan → (base : ℕ) → Type 0
HasFew (naming ns to) base = base ≤ length ns
HasFew (putting put level) base = Unit {0}

-- the node of a level, or what is in its place
pub record IsPutLevel (put : (ℕ → Term) → Term) (level i : ℕ) (x : Value) : Type 0 where
  pub term : (env : ℕ → Term) → ArePlaces env → Lacks level env → x.term env ≡ fill (put_name level (put env)) (around level env i)
  pub holds : (e : ℕ) → level ≤ e → i ≤ e → x.holds e ≡ true

-- so of levels from k on
abbrev pub ArePutLevels : ((ℕ → Term) → Term) → (level k : ℕ) → List Value → Type 0
ArePutLevels put level k [] = Unit {0}
ArePutLevels put level k (x ∷ xs) = IsPutLevel put level k x × ArePutLevels put level (suc k) xs

-- a variable that has no value, with a term in the place of one of its levels
pub record IsPutVar (put : (ℕ → Term) → Term) (level v depth : ℕ) (x : Value) : Type 0 where
  pub term : (env : ℕ → Term) → ArePlaces env → Lacks level env → x.term env ≡ fill (put_name level (put env)) (apply_all (At (Var v)) (levels depth (around level env)))
  pub holds : (e : ℕ) → level ≤ e → depth ≤ e + 1 → x.holds e ≡ true
