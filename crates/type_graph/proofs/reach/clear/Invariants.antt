use Rattle.std.proofs.Common.{ℕ, ◌≡◌, ◌<◌, true, length, All}
use Rattle.std.specs.List.{Contains}
use Rattle.type_graph.specs.inside.Reach.{is_marked}
use Rattle.type_graph.proofs.reach.clear.Given as goal

abbrev pub invariant-loop-node : goal.invariant-loop-node
invariant-loop-node l = record {
  within : All (λ q. q < length l.seen) l.queue.items;
  queued : (k : ℕ) → is_marked l.seen k ≡ true → Contains l.queue.items k;
}

abbrev pub decreases-loop-node : goal.decreases-loop-node
decreases-loop-node l = goal.left-loop-node l
