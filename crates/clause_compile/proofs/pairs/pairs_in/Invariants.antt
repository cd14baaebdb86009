use Rattle.std.proofs.Common.{◌≡◌, take}
use Rattle.std.specs.List.{filter_map}
use Rattle.lp_resolve.specs.Plain.{plain_pair}
use Rattle.lp_resolve.specs.StaticRules.{goals_of}
use Rattle.clause_compile.proofs.pairs.pairs_in.Given as goal

abbrev pub invariant-loop-pair : goal.invariant-loop-pair
invariant-loop-pair l = l.pairs ≡ filter_map (plain_pair (goals_of l.rule)) (take l.pair-index l.rule.pairs)
