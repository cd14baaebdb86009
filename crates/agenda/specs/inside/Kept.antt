-- How an agenda is kept: for each constraint, the lowest rule that has a pair with it.
use Rattle.std.specs.Prelude.{◌≡◌, ℕ, ◌+◌, ◌<◌, ◌≤◌, ◌==◌, if◌then◌else◌, List, [], ◌∷◌, zero, suc, length, slice_index_or}
use Rattle.agenda.specs.declared.Change.{Change}
use Rattle.agenda.specs.declared.Change.TheVariants.{Put, Taken}
use Rattle.agenda.specs.Log.{pairs_after}

-- the lowest rule that has a pair with the constraint, or the number of rules if none has. Pairs are
-- put in for all rules, and taken out from the first rule on, so all later rules have one too
abbrev pub rank_after : ℕ → List Change → ℕ → ℕ
rank_after rules [] c = rules
rank_after rules (Put rule number ∷ older) c = if number == c then rule else rank_after rules older c
rank_after rules (Taken rule number ∷ older) c = if number == c then suc rule else rank_after rules older c

-- each change moves a constraint's lowest rule by one
abbrev pub IsStepwise : ℕ → ℕ → List Change → Type 0
IsStepwise rules places [] = Unit {0}
IsStepwise rules places (Put rule number ∷ older) =
    (number < places) × (rule < rules) × (rank_after rules older number ≡ suc rule) × IsStepwise rules places older
IsStepwise rules places (Taken rule number ∷ older) =
    (number < places) × (rule < rules) × (rank_after rules older number ≡ rule) × IsStepwise rules places older

-- the ranks are the constraints' lowest rules, the count is that of the pairs, and the log has room
-- for taking each pair out
pub record IsKept (rules : ℕ) (log : List Change) (ranks : List ℕ) (count capacity : ℕ) : Type 0 where
  pub stepwise : IsStepwise rules (length ranks) log
  pub ranks_are : (c : ℕ) → slice_index_or ranks c rules ≡ rank_after rules log c
  pub count_is : count ≡ length (pairs_after log)
  pub room : length log + count ≤ capacity

-- the log after a constraint's pairs with the first rules were put in, the last rule's first
abbrev pub puts : ℕ → ℕ → List Change → List Change
puts zero number log = log
puts (suc rule) number log = puts rule number (Put rule number ∷ log)
