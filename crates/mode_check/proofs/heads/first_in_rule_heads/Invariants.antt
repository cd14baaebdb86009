use Rattle.std.proofs.Common.{◌≡◌, take, flat_map}
use Rattle.lp_resolve.specs.StaticRules.{rule_heads, head_breaches, first_of}
use Rattle.mode_check.proofs.heads.first_in_rule_heads.Given as goal

abbrev pub invariant-loop-rule : goal.invariant-loop-rule
invariant-loop-rule l = l.found ≡ first_of (flat_map (λ r. flat_map (head_breaches l.preds) (rule_heads r)) (take l.rule-index l.rules))
