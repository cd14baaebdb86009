use Rattle.std.proofs.Common.{◌≡◌, ◌++◌, length}
use Rattle.goal_run.specs.inside.Suspended.{assumed_terms}
use Rattle.goal_run.proofs.suspended.assumed_terms.Given as goal

-- the terms so far, and those of the clauses that are left, are all
abbrev pub invariant-loop-hyp : goal.invariant-loop-hyp
invariant-loop-hyp l = l.terms.items ++ assumed_terms l.rest ≡ assumed_terms l.context

abbrev pub decreases-loop-hyp : goal.decreases-loop-hyp
decreases-loop-hyp l = length l.rest
