-- What is to be looked at, and what looking and following do.
use Rattle.std.specs.Prelude.{◌≡◌, ℕ, ◌⊎◌, Bool, true, false, List, [], ◌∷◌, ◌++◌, map, length, Option, Some, None}
use Rattle.level_terms.specs.declared.node.Change.{Change}
use Rattle.level_terms.specs.Graph.{Graph, Assigned}
use Rattle.level_terms.specs.Sound.{IsSound}
use Rattle.level_terms.specs.Growth.{Grows}
use Rattle.ref_terms.specs.terms.Term.{Term}
use Rattle.ref_terms.specs.search.Value.{is_flex}
use Rattle.ref_terms.specs.search.Used.{Every}
use Rattle.ref_terms.specs.search.Waking.{heading}
use Rattle.suspend.specs.declared.constraint.Constraint.{Constraint}
use Rattle.suspend.specs.Store.{Event, rests, stored, stored_at, is_stored, rows, waiting, has, has_row, HasAll, HasAllRows, IsLater, SameStore}
use Rattle.suspend.specs.Keyed.{awake_in, Keyed}

-- each stored number that is to be looked at is in the queue, where not all are taken to be to be looked at
abbrev pub AreQueued : {X : Type 0} → List (Event X) → (all : Bool) → List ℕ → Type 0
AreQueued log all queue = (n : ℕ) → is_stored log n ≡ true → has (waiting log) n ≡ true → (all ≡ true) ⊎ (has queue n ≡ true)

-- all numbers that have a row with the variable are among these
abbrev pub Watches : List (ℕ × ℕ) → (variable : ℕ) → List ℕ → Type 0
Watches rs v ns = (n : ℕ) → has_row rs v n ≡ true → has ns n ≡ true

-- it is noted that nothing is to be looked at, now or before
abbrev pub RestsAt : {X : Type 0} → (earlier later : List (Event X)) → Type 0
RestsAt earlier later = (later ≡ rests ∷ earlier) ⊎ ((later ≡ earlier) × (waiting later ≡ []))

-- the same constraints and firings; no row is lost, and no more is to be looked at
pub record LooksOn {X : Type 0} (old new : List (Event X)) : Type 0 where
  pub same : SameStore old new
  pub later : IsLater old new
  pub rows_stay : HasAllRows (rows old) (rows new)
  pub fewer : HasAll (waiting new) (waiting old)

-- the same constraints, firings and rows; more may be to be looked at
pub record StirsOn {X : Type 0} (old new : List (Event X)) : Type 0 where
  pub same : SameStore old new
  pub later : IsLater old new
  pub rows_stay : rows new ≡ rows old
  pub more : HasAll (waiting old) (waiting new)

-- each of these variables has a row with the number
abbrev pub AllHead : {X : Type 0} → List (Event X) → (number : ℕ) → List ℕ → Type 0
AllHead log n vs = Every (λ v. has_row (rows log) v n ≡ true) vs

-- the variable that heads a term, or that none does
abbrev pub ShowsHead : Term → Option ℕ → Type 0
ShowsHead u None = is_flex u ≡ false
ShowsHead u (Some v) = heading u ≡ Some v

-- these variables head these terms
abbrev pub AreHeadedBy : List Term → List ℕ → Type 0
AreHeadedBy ts vs = map heading ts ≡ map (λ v. Some v) vs

-- the constraint of this number is stored and awake
pub record IsUp {X : Type 0} (g : Graph) (log : List (Event X)) (n : ℕ) : Type 0 where
  pub constraint : Constraint X
  pub at : stored_at (stored log) n ≡ Some constraint
  pub awake : awake_in g constraint.keys ≡ true

-- no constraint of this number is to be looked at
abbrev pub IsDown : {X : Type 0} → List (Event X) → ℕ → Type 0
IsDown log n = is_stored log n ≡ true → has (waiting log) n ≡ false

-- all that are stored are to be looked at
abbrev pub AllWait : {X : Type 0} → List (Event X) → Type 0
AllWait log = Every (λ e. has (waiting log) e.0 ≡ true) (stored log)

-- what was known at a heap is known now
abbrev pub KeepsKeyed : {X : Type 0} → (earlier later : List (Event X)) → Type 0
KeepsKeyed earlier later = (g : Graph) → Keyed earlier g → Keyed later g

-- a variable's assignment is followed: what was known before it is known after it; the heap has got others since
abbrev pub FollowsOne : {X : Type 0} → (earlier later : List (Event X)) → Graph → (variable : ℕ) → Type 0
FollowsOne earlier later h v = (g : Graph) (a : Assigned) (newer : List Assigned) → a.variable ≡ v → h ≡ record g { assigned = newer ++ a ∷ g.assigned } → Keyed earlier g → Keyed later (record g { assigned = a ∷ g.assigned })

-- the oldest of a growth's assignments are followed, as many as that
abbrev pub FollowsSome : {X : Type 0} → (earlier later : List (Event X)) → Graph → List Change → (count : ℕ) → Type 0
FollowsSome earlier later h entries i = (g : Graph) → IsSound g → (w : Grows g h [] entries) → Keyed earlier g
    → (newer older : List Assigned) → w.new_assigned ≡ newer ++ older → length older ≡ i → Keyed later (record h { assigned = older ++ g.assigned })
