use Rattle.type_texts.specs.Occurring.{rule_constants}
use Rattle.type_texts.proofs.Noting.{noted-more}
use Rattle.type_texts.proofs.occurring.note_rules.Goals as goal

pub loop-rule-preserved : goal.loop-rule-preserved
loop-rule-preserved c =
    noted-more rule_constants c.args.constants.now.keys c.loop-rule.constants.keys c.note_rule.new.constants.keys c.args.rules.now c.loop-rule.rule-index c.rule-item.result c.loop-rule-test.true c.rule-item.is
    c.loop-rule.invariant c.in_ok-note_rule.ensures
