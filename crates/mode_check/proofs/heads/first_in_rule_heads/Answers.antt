use Rattle.std.proofs.Common.{flat_map}
use Rattle.lp_resolve.specs.StaticRules.{rule_heads, head_breaches}
use Rattle.mode_check.proofs.Firsts.{next-first}
use Rattle.mode_check.proofs.heads.first_in_rule_heads.Goals as goal

pub loop-rule-preserved : goal.loop-rule-preserved
loop-rule-preserved c =
    next-first (λ r. flat_map (head_breaches c.args.preds.now) (rule_heads r)) c.args.rules.now c.loop-rule.rule-index c.rule-item.result
    c.loop-rule.found c.in_ok-first_in_heads.field-0 c.earlier-found.result c.loop-rule-test.true c.rule-item.is c.loop-rule.invariant
    c.in_ok-first_in_heads.ensures c.earlier-found.ensures
