-- What a store knows of the keys of its constraints.
use Rattle.std.specs.Prelude.{◌≡◌, ℕ, ◌<◌, ◌⊎◌, Bool, true, not, List, [], ◌∷◌, map, if◌then◌else◌, length, Option, Some, None}
use Rattle.std.specs.List.{list_any}
use Rattle.level_terms.specs.declared.node.TermId.{TermId}
use Rattle.level_terms.specs.declared.node.Change.{Change}
use Rattle.level_terms.specs.Graph.{Graph, Assigned}
use Rattle.level_terms.specs.Reading.{read}
use Rattle.level_terms.specs.Valid.{IsValid}
use Rattle.level_terms.specs.Sound.{IsSound}
use Rattle.level_terms.specs.Growth.{Grows}
use Rattle.ref_terms.specs.terms.Term.{Term}
use Rattle.ref_terms.specs.search.Value.{is_flex}
use Rattle.ref_terms.specs.search.Used.{Every}
use Rattle.ref_terms.specs.search.Waking.{IsQuiet}
use Rattle.beta_fragment.specs.Names.{names}
use Rattle.suspend.specs.declared.constraint.Constraint.{Constraint}
use Rattle.suspend.specs.Store.{Event, rows, waiting, stored, has, has_row}

-- what keys read as
abbrev pub keys_read : Graph → List TermId → List Term
keys_read g ks = map (λ k. read g k.index names) ks

-- a constraint with these keys is awake: some key isn't headed by a variable
abbrev pub awake_in : Graph → List TermId → Bool
awake_in g ks = list_any (λ t. not (is_flex t)) (keys_read g ks)

-- the first awake constraint's number
abbrev pub first_awake : {X : Type 0} → Graph → List (ℕ × Constraint X) → Option ℕ
first_awake g [] = None
first_awake g (e ∷ es) = if awake_in g e.1.keys then Some e.0 else first_awake g es

-- the keys are nodes of the heap that are valid at the constraint's names
abbrev pub KeysValid : Graph → (depth : ℕ) → List TermId → Type 0
KeysValid g depth ks = Every (λ k. (k.index < length g.nodes) × IsValid g k.index depth) ks

-- the constraint of this number is to be looked at, or each of its keys is headed by a variable that has a row with it
abbrev pub IsKeyed : Graph → List (ℕ × ℕ) → List ℕ → (number depth : ℕ) → List TermId → Type 0
IsKeyed g rs ns n depth ks = KeysValid g depth ks × ((has ns n ≡ true) ⊎ IsQuiet (λ v. has_row rs v n) (keys_read g ks))

-- so are all that are stored
abbrev pub Keyed : {X : Type 0} → List (Event X) → Graph → Type 0
Keyed log g = Every (λ e. IsKeyed g (rows log) (waiting log) e.0 e.1.names e.1.keys) (stored log)

-- the later log knows of the later heap what the earlier one knew of an earlier heap, from which the later one came by a
-- growth that put these entries on the trail
abbrev pub Follows : {X : Type 0} → (earlier later : List (Event X)) → Graph → List Change → Type 0
Follows earlier later h entries = (g : Graph) → IsSound g → Grows g h [] entries → Keyed earlier g → Keyed later h

-- the numbers that have a row with a variable are to be looked at
abbrev pub Stirred : List (ℕ × ℕ) → List ℕ → (variable : ℕ) → Type 0
Stirred rs ns v = (n : ℕ) → has_row rs v n ≡ true → has ns n ≡ true

-- so are those of all variables that got values
abbrev pub AllStirred : List (ℕ × ℕ) → List ℕ → List Assigned → Type 0
AllStirred rs ns assigned = Every (λ a. Stirred rs ns a.variable) assigned
