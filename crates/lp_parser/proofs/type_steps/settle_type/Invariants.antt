use Rattle.std.proofs.Common.{◌≡◌, length}
use Rattle.lp_parser.specs.inside.TypeMachine.{type_settle}
use Rattle.lp_parser.proofs.type_steps.settle_type.Given as goal

abbrev pub invariant-loop-frame : goal.invariant-loop-frame
invariant-loop-frame l = type_settle l.inner l.frames ≡ type_settle l.fn.ty l.fn.frames

abbrev pub decreases-loop-frame : goal.decreases-loop-frame
decreases-loop-frame l = length l.frames
