use Rattle.std.proofs.Common.{[], ◌∷◌, ◌++◌, length}
use Rattle.level_terms.specs.Reached.{IsUnreached}
use Rattle.level_terms.specs.Sound.{AllOlder}
use Rattle.beta_fragment.proofs.WorkLemmas.{total}
use Rattle.pattern_unify.specs.inside.Reaching.{AllUnreached}
use Rattle.pattern_unify.proofs.reaching.is_reached.Given as goal

abbrev pub invariant-loop-v : goal.invariant-loop-v
invariant-loop-v l = record {
  there : AllOlder (length l.heap.nodes) (l.work.items ++ l.node ∷ []);
  leads : AllUnreached l.heap l.v.index (l.work.items ++ l.node ∷ []) → IsUnreached l.heap l.v.index l.fn.t.index;
}

abbrev pub decreases-loop-v : goal.decreases-loop-v
decreases-loop-v l = total l.heap (l.work.items ++ l.node ∷ [])
