use Rattle.std.proofs.Common.{◌≡◌, take, flat_map}
use Rattle.lp_resolve.specs.StaticRules.{rule_heads, head_breaches, first_of}
use Rattle.mode_check.proofs.heads.first_in_heads.Given as goal

abbrev pub invariant-loop-index : goal.invariant-loop-index
invariant-loop-index l = l.found ≡ first_of (flat_map (head_breaches l.preds) (take l.index (rule_heads l.rule)))
