use Rattle.std.proofs.Common.{◌≡◌, nat_eq, length}
use Rattle.std.specs.List.{list_any}
use Rattle.suspend.specs.Store.{is_stored}
use Rattle.store_rows.proofs.keeping.has.Given as goal

abbrev pub invariant-loop-stored : goal.invariant-loop-stored
invariant-loop-stored l = is_stored l.fn.store l.fn.number ≡ list_any (λ e. nat_eq l.fn.number e.0) l.rest

abbrev pub decreases-loop-stored : goal.decreases-loop-stored
decreases-loop-stored l = length l.rest
