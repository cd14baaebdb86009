-- What the laws of waking say.
use Rattle.std.specs.Prelude.{◌≡◌, ℕ, ◌≤◌, Bool, true, false, nat_eq, List, [], ◌∷◌, drop, length, None}
use Rattle.level_terms.specs.declared.node.Change.{Change}
use Rattle.level_terms.specs.declared.node.TermId.{TermId}
use Rattle.level_terms.specs.Graph.{Graph, Assigned}
use Rattle.level_terms.specs.Reading.{assigned_term}
use Rattle.level_terms.specs.Sound.{IsSound}
use Rattle.level_terms.specs.Growth.{Grows}
use Rattle.ref_terms.specs.terms.Term.{At, Var}
use Rattle.ref_terms.specs.search.Waking.{IsQuiet}
use Rattle.ref_terms.specs.search.Used.{Every}
use Rattle.suspend.specs.declared.constraint.Constraint.{Constraint}
use Rattle.suspend.specs.declared.constraint.Fired.{Fired}
use Rattle.suspend.specs.Store.{Event, joins, leaves, fires, heads, becomes, waits, sleeps, doubts, rests, added, rows, waiting, stored, has_row, oldest, IsAscending, IsLater}
use Rattle.suspend.specs.Keyed.{keys_read, awake_in, first_awake, KeysValid, Keyed, Stirred, AllStirred}

-- a constraint whose keys are headed by variables isn't awake
abbrev pub QuietSleeps : Type 0
QuietSleeps = (g : Graph) (watched : ℕ → Bool) (ks : List TermId) → IsQuiet watched (keys_read g ks) → awake_in g ks ≡ false

-- the log goes on, the heap stays: a constraint joins, whose keys are nodes of the heap
abbrev pub KeyedAfterJoining : Type 0 → Type 0
KeyedAfterJoining X = (g : Graph) (log : List (Event X)) (c : Constraint X) → KeysValid g c.names c.keys → Keyed log g → Keyed (joins c ∷ log) g

-- one leaves
abbrev pub KeyedAfterLeaving : Type 0 → Type 0
KeyedAfterLeaving X = (g : Graph) (log : List (Event X)) (n : ℕ) → Keyed log g → Keyed (leaves n ∷ log) g

-- a rule fires
abbrev pub KeyedAfterFiring : Type 0 → Type 0
KeyedAfterFiring X = (g : Graph) (log : List (Event X)) (f : Fired) → Keyed log g → Keyed (fires f ∷ log) g

-- a row is added
abbrev pub KeyedAfterRow : Type 0 → Type 0
KeyedAfterRow X = (g : Graph) (log : List (Event X)) (v n : ℕ) → Keyed log g → Keyed (heads v n ∷ log) g

-- one more is to be looked at
abbrev pub KeyedAfterWaiting : Type 0 → Type 0
KeyedAfterWaiting X = (g : Graph) (log : List (Event X)) (n : ℕ) → Keyed log g → Keyed (waits n ∷ log) g

-- all are to be looked at
abbrev pub KeyedAfterDoubting : Type 0 → Type 0
KeyedAfterDoubting X = (g : Graph) (log : List (Event X)) → Keyed log g → Keyed (doubts ∷ log) g

-- one was looked at, and each of its keys is headed by a variable that has a row with it
abbrev pub KeyedAfterLooking : Type 0 → Type 0
KeyedAfterLooking X = (g : Graph) (log : List (Event X)) (n : ℕ) → Every (λ e. nat_eq n e.0 ≡ true → IsQuiet (λ v. has_row (rows log) v e.0) (keys_read g e.1.keys)) (stored log) → Keyed log g → Keyed (sleeps n ∷ log) g

-- all were looked at
abbrev pub KeyedAfterResting : Type 0 → Type 0
KeyedAfterResting X = (g : Graph) (log : List (Event X)) → Every (λ e. IsQuiet (λ v. has_row (rows log) v e.0) (keys_read g e.1.keys)) (stored log) → Keyed log g → Keyed (rests ∷ log) g

-- a variable gets a value, and what has a row with it is to be looked at
abbrev pub KeyedAfterAssigning : Type 0 → Type 0
KeyedAfterAssigning X = (g : Graph) (a : Assigned) (log : List (Event X)) → Stirred (rows log) (waiting log) a.variable → Keyed log g → Keyed log (record g { assigned = a ∷ g.assigned })

-- a variable gets another one as its value, over the same names, and that one gets its rows
abbrev pub KeyedAfterRenaming : Type 0 → Type 0
KeyedAfterRenaming X = (g : Graph) (a : Assigned) (u : ℕ) (log : List (Event X)) → assigned_term g a ≡ At (Var u) → Keyed log g → Keyed (becomes a.variable u ∷ log) (record g { assigned = a ∷ g.assigned })

-- the heap grows, the log stays: the numbers of the variables that got values are to be looked at
abbrev pub KeyedAfterGrowth : Type 0 → Type 0
KeyedAfterGrowth X = (g h : Graph) (s t : List Change) (log : List (Event X)) → IsSound g → (w : Grows g h s t) → AllStirred (rows log) (waiting log) w.new_assigned → Keyed log g → Keyed log h

-- the heap grows and the trail stays: the log needn't change
abbrev pub KeyedAfterMaking : Type 0 → Type 0
KeyedAfterMaking X = (g h : Graph) (noted : List Change) (log : List (Event X)) → IsSound g → Grows g h noted noted → Keyed log g → Keyed log h

-- where nothing is to be looked at, nothing is awake
abbrev pub NothingIsAwake : Type 0 → Type 0
NothingIsAwake X = (g : Graph) (log : List (Event X)) → waiting log ≡ [] → Keyed log g → first_awake g (stored log) ≡ None

-- a growth puts on the trail what the trail has gained
abbrev pub GrowthGains : Type 0
GrowthGains = (g h : Graph) (s t : List Change) → Grows g h s t → Grows g h [] (drop (length s) t)

-- numbers rise in order of declaration
abbrev pub NumbersAscend : Type 0 → Type 0
NumbersAscend X = (log : List (Event X)) → IsAscending (stored log)

-- and none is past the count of additions
abbrev pub NumbersAreBelow : Type 0 → Type 0
NumbersAreBelow X = (log : List (Event X)) → Every (λ e. e.0 ≤ added log) (stored log)

-- a log is later than itself
abbrev pub LaterIsReflexive : Type 0 → Type 0
LaterIsReflexive X = (log : List (Event X)) → IsLater log log

-- and what is later than a later one is later
abbrev pub LaterIsTransitive : Type 0 → Type 0
LaterIsTransitive X = (log more most : List (Event X)) → IsLater log more → IsLater more most → IsLater log most

-- a later log isn't shorter, and its oldest events, as many as the earlier one has, are that one
abbrev pub OldestIsEarlier : Type 0 → Type 0
OldestIsEarlier X = (log more : List (Event X)) → IsLater log more → (length log ≤ length more) × (oldest (length log) more ≡ log)

-- going back twice is going back to the earlier place
abbrev pub OldestTwice : Type 0 → Type 0
OldestTwice X = (a b : ℕ) (log : List (Event X)) → a ≤ b → b ≤ length log → (length (oldest b log) ≡ b) × (oldest a (oldest b log) ≡ oldest a log)
