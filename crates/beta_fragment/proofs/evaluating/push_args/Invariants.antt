use Rattle.std.proofs.Common.{◌≡◌, ◌≤◌, ◌++◌, length, reverse, drop}
use Rattle.beta_fragment.specs.inside.Evaluation.{arg_tasks}
use Rattle.beta_fragment.proofs.evaluating.push_args.Given as goal

abbrev pub invariant-loop-i : goal.invariant-loop-i
invariant-loop-i l = record {
  within : l.i ≤ length l.args;
  pushed : l.work.items ≡ l.fn.work.items ++ reverse (arg_tasks (drop l.i l.args));
}

abbrev pub decreases-loop-i : goal.decreases-loop-i
decreases-loop-i l = l.i
