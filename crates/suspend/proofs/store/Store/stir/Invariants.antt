use Rattle.std.proofs.Common.{◌≡◌, ◌≤◌, ◌-◌, true, length, take}
use Rattle.ref_terms.specs.search.Used.{Every}
use Rattle.suspend.specs.Store.{waiting, has}
use Rattle.suspend.specs.inside.Waking.{StirsOn}
use Rattle.suspend.proofs.store.Store.stir.Given as goal

abbrev pub invariant-loop-i : goal.invariant-loop-i
invariant-loop-i g l = (l.i ≤ length l.numbers.items) × StirsOn l.fn.self l.self × Every (λ n. has (waiting l.self) n ≡ true) (take l.i l.numbers.items)

abbrev pub decreases-loop-i : goal.decreases-loop-i
decreases-loop-i g l = length l.numbers.items - l.i
