use Rattle.std.proofs.Common.{◌≡◌, map, drop}
use Rattle.lp_resolve.specs.Occurrences.{walked, are_distinct_names}
use Rattle.mode_check.proofs.Spines.{are_free}
use Rattle.mode_check.proofs.names.are_distinct_names.Given as goal

abbrev pub invariant-loop-arg : goal.invariant-loop-arg
invariant-loop-arg l = are_distinct_names (map (λ arg. (walked arg).name) l.args) ≡ are_free l.names.keys (map (λ arg. (walked arg).name) (drop l.arg-index l.args))
