use Rattle.std.proofs.Common.{◌≡◌, ◌++◌, map, take, flat_map}
use Rattle.lp_resolve.specs.Occurrences.{occurrences, are_distinct_names}
use Rattle.mode_check.proofs.variables.+noted.Given as goal

abbrev pub invariant-note_all-loop-tree : goal.invariant-note_all-loop-tree
invariant-note_all-loop-tree l =
    l.usable.items ≡ l.initial.usable.items ++ map (λ o. are_distinct_names o.spine) (flat_map occurrences (take l.tree-index l.trees))
