use Rattle.lp_resolve.specs.StaticRules.{rule_breaches}
use Rattle.mode_check.proofs.Firsts.{next-first}
use Rattle.mode_check.proofs.rules.first_in_rules.Goals as goal

pub loop-rule-preserved : goal.loop-rule-preserved
loop-rule-preserved c =
    next-first rule_breaches c.args.rules.now c.loop-rule.rule-index c.rule-item.result c.loop-rule.found c.in_ok-first_in_rule.field-0 c.earlier-found.result
    c.loop-rule-test.true c.rule-item.is c.loop-rule.invariant c.in_ok-first_in_rule.ensures c.earlier-found.ensures
