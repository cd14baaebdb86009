use Rattle.std.proofs.Common.{◌≡◌, ℕ, ◌⊎◌, true, nat_eq, length}
use Rattle.std.specs.List.{list_any}
use Rattle.suspend.specs.Store.{is_stored, has, HasAll}
use Rattle.suspend.proofs.store.refill.Given as goal

abbrev pub invariant-loop-number : goal.invariant-loop-number
invariant-loop-number g l = HasAll l.fn.queue l.queue × ((n : ℕ) → is_stored l.ledger n ≡ true → (has l.queue n ≡ true) ⊎ (list_any (λ e. nat_eq n e.0) l.rest ≡ true))

abbrev pub decreases-loop-number : goal.decreases-loop-number
decreases-loop-number g l = length l.rest
