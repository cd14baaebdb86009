use Rattle.std.proofs.Common.{◌≡◌, ◌++◌, map, drop}
use Rattle.ref_terms.specs.unification.Pattern.{of_name}
use Rattle.ref_terms.specs.unification.Positions.{agreeing}
use Rattle.pattern_unify.proofs.positions.agreeing.Given as goal

abbrev pub invariant-loop-i : goal.invariant-loop-i
invariant-loop-i l = l.kept.items ++ agreeing l.i (map of_name (drop l.i l.xs)) (map of_name (drop l.i l.ys)) ≡ agreeing 0 (map of_name l.xs) (map of_name l.ys)
