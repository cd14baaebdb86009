use Rattle.std.proofs.Common.{◌≡◌, length}
use Rattle.lp_parser.specs.inside.TermMachine.{settle}
use Rattle.lp_parser.proofs.term.settle_all.Given as goal

abbrev pub invariant-loop-frame : goal.invariant-loop-frame
invariant-loop-frame l = settle l.inner l.frames ≡ settle l.fn.term l.fn.frames

abbrev pub decreases-loop-frame : goal.decreases-loop-frame
decreases-loop-frame l = length l.frames
