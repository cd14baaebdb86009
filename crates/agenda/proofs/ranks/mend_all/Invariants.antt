use Rattle.std.proofs.Common.{◌≡◌, ℕ, ◌<◌, ◌≤◌, drop}
use Rattle.agenda.specs.inside.Ranks.{IsInner}
use Rattle.agenda.proofs.ranks.mend_all.Given as goal

abbrev pub invariant-loop-k : goal.invariant-loop-k
invariant-loop-k l =
    (l.k ≤ l.places) × ((k : ℕ) → 0 < k → l.k ≤ k → k < l.places → IsInner l.nodes k) × (drop l.places l.nodes ≡ drop l.places l.fn.nodes)

abbrev pub decreases-loop-k : goal.decreases-loop-k
decreases-loop-k l = l.k
