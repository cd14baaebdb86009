-- What contracts see of a store: its log.
use Rattle.std.specs.Prelude.{◌≡◌, ℕ, suc, ◌-◌, ◌<◌, Bool, true, ◌&&◌, not, nat_eq, cond, List, [], ◌∷◌, ◌++◌, map, filter, drop, length, Option, Some, None}
use Rattle.std.specs.List.{list_any}
use Rattle.ref_terms.specs.search.RuleInstance.{numbers_eq}
use Rattle.ref_terms.specs.search.Used.{Every}
use Rattle.suspend.specs.declared.constraint.Constraint.{Constraint}
use Rattle.suspend.specs.declared.constraint.Fired.{Fired}

-- a constraint was added, or the one of this number left; a rule fired; a variable that heads a key of the constraint
-- of this number got a row with it; a variable became another one, which gets its rows; the keys of a constraint are to
-- be looked at; they were looked at, and all are headed by variables; all keys are to be looked at; all were looked at
pub data Event (X : Type 0) : Type 0 where
  joins : Constraint X → Event X
  leaves : (number : ℕ) → Event X
  fires : Fired → Event X
  heads : (variable number : ℕ) → Event X
  becomes : (variable other : ℕ) → Event X
  waits : (number : ℕ) → Event X
  sleeps : (number : ℕ) → Event X
  doubts : Event X
  rests : Event X

-- how many constraints were added; logs stand newest event first
abbrev pub added : {X : Type 0} → List (Event X) → ℕ
added [] = 0
added (joins c ∷ older) = suc (added older)
added (_ ∷ older) = added older

-- the list without a number
abbrev pub without : {X : Type 0} → ℕ → List (ℕ × Constraint X) → List (ℕ × Constraint X)
without n es = filter (λ e. not (nat_eq e.0 n)) es

-- the constraints in order of declaration, each with its number
abbrev pub stored : {X : Type 0} → List (Event X) → List (ℕ × Constraint X)
stored [] = []
stored (joins c ∷ older) = stored older ++ (suc (added older), c) ∷ []
stored (leaves n ∷ older) = without n (stored older)
stored (_ ∷ older) = stored older

-- the firings, oldest first
abbrev pub firings : {X : Type 0} → List (Event X) → List Fired
firings [] = []
firings (joins c ∷ older) = firings older
firings (fires f ∷ older) = firings older ++ f ∷ []
firings (_ ∷ older) = firings older

-- a row of the one variable is one of the other
abbrev pub moved_row : (v u : ℕ) → ℕ × ℕ → ℕ × ℕ
moved_row v u r = cond (nat_eq r.0 v) (u, r.1) r

-- the rows: a variable, and the number of a constraint that has a key headed by it
abbrev pub rows : {X : Type 0} → List (Event X) → List (ℕ × ℕ)
rows [] = []
rows (joins c ∷ older) = rows older
rows (heads v n ∷ older) = (v, n) ∷ rows older
rows (becomes v u ∷ older) = map (moved_row v u) (rows older)
rows (leaves n ∷ older) = filter (λ r. not (nat_eq r.1 n)) (rows older)
rows (_ ∷ older) = rows older

-- the numbers whose keys are to be looked at
abbrev pub waiting : {X : Type 0} → List (Event X) → List ℕ
waiting [] = []
waiting (joins c ∷ older) = suc (added older) ∷ waiting older
waiting (waits n ∷ older) = n ∷ waiting older
waiting (sleeps n ∷ older) = filter (λ m. not (nat_eq m n)) (waiting older)
waiting (leaves n ∷ older) = filter (λ m. not (nat_eq m n)) (waiting older)
waiting (doubts ∷ older) = map (λ e. e.0) (stored older) ++ waiting older
waiting (rests ∷ older) = []
waiting (_ ∷ older) = waiting older

-- the rule fired on these constraints
abbrev pub has_fired : List Fired → Fired → Bool
has_fired fs f = list_any (λ g. nat_eq f.rule g.rule && numbers_eq f.constraints.items g.constraints.items) fs

-- the number is one of these
abbrev pub has : List ℕ → ℕ → Bool
has ns n = list_any (nat_eq n) ns

-- the variable has a row with the number
abbrev pub has_row : List (ℕ × ℕ) → ℕ → ℕ → Bool
has_row rs v n = list_any (λ r. nat_eq v r.0 && nat_eq n r.1) rs

-- the number is that of a stored constraint
abbrev pub is_stored : {X : Type 0} → List (Event X) → ℕ → Bool
is_stored log n = list_any (λ e. nat_eq n e.0) (stored log)

-- the constraint with a number
abbrev pub stored_at : {X : Type 0} → List (ℕ × Constraint X) → ℕ → Option (Constraint X)
stored_at [] n = None
stored_at (e ∷ es) n = cond (nat_eq e.0 n) (Some e.1) (stored_at es n)

-- the numbers rise
abbrev pub IsAscending : {X : Type 0} → List (ℕ × Constraint X) → Type 0
IsAscending [] = Unit {0}
IsAscending (e ∷ es) = Every (λ later. e.0 < later.0) es × IsAscending es

-- the log's oldest events, so many of them
abbrev pub oldest : {X : Type 0} → ℕ → List (Event X) → List (Event X)
oldest n log = drop (length log - n) log

-- the later log adds events to the earlier one
pub record IsLater {X : Type 0} (earlier later : List (Event X)) : Type 0 where
  pub more : List (Event X)
  pub is : later ≡ more ++ earlier

-- what the search reads of both is the same: constraints, firings and the count of additions
pub record SameStore {X : Type 0} (earlier later : List (Event X)) : Type 0 where
  pub constraints : stored later ≡ stored earlier
  pub firings_are : firings later ≡ firings earlier
  pub additions : added later ≡ added earlier

-- the second list has all numbers of the first
abbrev pub HasAll : List ℕ → List ℕ → Type 0
HasAll ns more = (n : ℕ) → has ns n ≡ true → has more n ≡ true

-- and all rows
abbrev pub HasAllRows : List (ℕ × ℕ) → List (ℕ × ℕ) → Type 0
HasAllRows rs more = (v n : ℕ) → has_row rs v n ≡ true → has_row more v n ≡ true
