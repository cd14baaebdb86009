use Rattle.std.proofs.Common.{[], ◌∷◌, ◌++◌}
use Rattle.level_terms.specs.Growth.{Grows}
use Rattle.ref_terms.specs.unification.Unification.{steps_of}
use Rattle.pattern_unify.specs.Answers.{problem_of}
use Rattle.pattern_unify.specs.Bound.{LeavesFrozen}
use Rattle.pattern_unify.specs.inside.Equations.{problem_at}
use Rattle.pattern_unify.specs.inside.Underway.{IsUnderway}
use Rattle.pattern_unify.proofs.solving.unify_from.Given as goal

abbrev pub invariant-loop-work : goal.invariant-loop-work
invariant-loop-work l = record {
  underway : IsUnderway l.mark.index (problem_of l.fn.heap l.fn.s.index l.fn.t.index l.fn.depth) l.fn.heap l.heap (l.work.items ++ l.e ∷ []);
  frozen : LeavesFrozen l.mark.index l.fn.heap l.heap;
  grows : Grows l.fn.heap l.heap l.fn.trail.entries l.trail.entries;
}

abbrev pub decreases-loop-work : goal.decreases-loop-work
decreases-loop-work l = steps_of l.mark.index (problem_at l.heap (l.work.items ++ l.e ∷ []) [])
