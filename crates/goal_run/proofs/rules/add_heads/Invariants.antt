use Rattle.std.proofs.Common.{◌≡◌, ◌++◌, map}
use Rattle.goal_run.specs.inside.Shapes.{head_made}
use Rattle.goal_run.proofs.rules.add_heads.Given as goal

abbrev pub invariant-loop-head : goal.invariant-loop-head
invariant-loop-head l = l.heads.items ≡ l.initial.heads.items ++ map head_made l.yielded
