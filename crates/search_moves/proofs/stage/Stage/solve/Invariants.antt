use Rattle.std.proofs.Common.{◌-◌}
use Rattle.search_moves.specs.Solving.{IsUnderway}
use Rattle.search_moves.proofs.stage.Stage.solve.Given as goal

abbrev pub invariant-loop-i : goal.invariant-loop-i
invariant-loop-i l = IsUnderway l.first_fresh.index l.mode l.depth l.inputs l.heads l.args l.fn.self l.self l.i

abbrev pub decreases-loop-i : goal.decreases-loop-i
decreases-loop-i l = l.count - l.i
