use Rattle.std.proofs.Common.{◌-◌, [], ◌∷◌, ◌++◌, length}
use Rattle.level_terms.specs.Sound.{AllOlder}
use Rattle.pattern_unify.proofs.renewing.is_small.Given as goal

-- what is still to be looked at is in the heap
abbrev pub invariant-loop-seen : goal.invariant-loop-seen
invariant-loop-seen l = AllOlder (length l.heap.nodes) (l.work.items ++ l.next ∷ [])

abbrev pub decreases-loop-seen : goal.decreases-loop-seen
decreases-loop-seen l = l.limit - l.seen
