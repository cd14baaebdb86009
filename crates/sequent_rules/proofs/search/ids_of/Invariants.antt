use Rattle.std.proofs.Common.{◌≡◌, ◌++◌, map, length}
use Rattle.suspend.specs.Store.{stored}
use Rattle.sequent_rules.proofs.search.ids_of.Given as goal

-- the numbers so far, before those that are left
abbrev pub invariant-loop-id : goal.invariant-loop-id
invariant-loop-id l = l.ids.items ++ map (λ e. e.0) l.left ≡ map (λ e. e.0) (stored l.store)

abbrev pub decreases-loop-id : goal.decreases-loop-id
decreases-loop-id l = length l.left
