use Rattle.std.proofs.Common.{◌≡◌, length, sum_by, take}
use Rattle.lp_resolve.specs.Occurrences.{occurrences}
use Rattle.lp_resolve.proofs.occurrences.+counted.Given as goal

abbrev pub invariant-count_all-loop-tree : goal.invariant-count_all-loop-tree
invariant-count_all-loop-tree l = l.count ≡ sum_by (λ tree. length (occurrences tree)) (take l.tree-index l.trees)
