use Rattle.std.proofs.Common.{◌≡◌, ◌++◌, map, drop}
use Rattle.ref_terms.specs.unification.Pattern.{of_name}
use Rattle.ref_terms.specs.unification.Positions.{positions_of}
use Rattle.pattern_unify.proofs.positions.positions_of.Given as goal

abbrev pub invariant-loop-x : goal.invariant-loop-x
invariant-loop-x l = l.kept.items ++ positions_of l.x-index (map of_name (drop l.x-index l.xs)) (map of_name l.ys) ≡ positions_of 0 (map of_name l.xs) (map of_name l.ys)
