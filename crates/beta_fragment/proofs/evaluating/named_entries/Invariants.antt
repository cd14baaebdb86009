use Rattle.std.proofs.Common.{◌≡◌, map, take}
use Rattle.beta_fragment.specs.declared.evaluating.Entry.TheVariants.{Named}
use Rattle.beta_fragment.proofs.evaluating.named_entries.Given as goal

abbrev pub invariant-loop-level : goal.invariant-loop-level
invariant-loop-level l = l.entries.items ≡ map Named (take l.level l.levels)
