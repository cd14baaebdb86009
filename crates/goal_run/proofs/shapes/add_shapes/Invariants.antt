use Rattle.std.proofs.Common.{◌≡◌, ◌++◌, map, take}
use Rattle.goal_run.specs.inside.Shapes.{head_shape}
use Rattle.goal_run.proofs.shapes.add_shapes.Given as goal

abbrev pub invariant-loop-head : goal.invariant-loop-head
invariant-loop-head l = l.shapes.items ≡ l.initial.shapes.items ++ map head_shape (take l.head-index l.heads)
