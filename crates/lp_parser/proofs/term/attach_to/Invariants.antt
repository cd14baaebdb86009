use Rattle.std.proofs.Common.{◌≡◌, length}
use Rattle.lp_parser.specs.inside.TermMachine.{attach}
use Rattle.lp_parser.proofs.term.attach_to.Given as goal

abbrev pub invariant-loop-frame : goal.invariant-loop-frame
invariant-loop-frame l = attach l.operator l.place l.left_is l.left l.frames ≡ attach l.fn.operator l.fn.place 9 l.fn.term l.fn.frames

abbrev pub decreases-loop-frame : goal.decreases-loop-frame
decreases-loop-frame l = length l.frames
