use Rattle.std.proofs.Common.{◌≡◌, ◌∙◌, [], ◌∷◌, ◌++◌, ap, map, take}
use Rattle.std.proofs.lemmas.List.{map-append}
use Rattle.lp_resolve.specs.ProgramTexts.{rule_texts}
use Rattle.lp_resolve.specs.ProgramReading.{rule_of}
use Rattle.lp_resolve.proofs.PutLemmas.{have_texts-more, have_put-more}
use Rattle.lp_resolve.proofs.items.read_rules.Goals as goal

pub loop-rule-preserved : goal.loop-rule-preserved
loop-rule-preserved c = record {
  texts = have_texts-more c.args.read.now c.loop-rule.rule-index c.rule-item.result c.loop-rule-test.true c.rule-item.is
      rule_texts c.args.symbols.now c.loop-rule.symbols c.read_rule.new.symbols c.loop-rule.invariant.texts c.in_ok-it.ensures.begins c.in_ok-it.ensures.table;
  rules = have_put-more c.args.read.now c.loop-rule.rule-index c.rule-item.result c.loop-rule-test.true c.rule-item.is
      (λ later. map (rule_of later c.args.names.now)) c.loop-rule.symbols c.read_rule.new.symbols c.args.rules.now c.loop-rule.rules c.push.new.self
      (λ later. rule_of later c.args.names.now c.rule-item.result ∷ [])
      (λ later. map-append (rule_of later c.args.names.now) (take c.loop-rule.rule-index c.args.read.now) (c.rule-item.result ∷ []))
      c.loop-rule.invariant.rules c.in_ok-it.ensures.begins
      (λ later b. c.in_ok-push.ensures.last ∙ ap (λ r. c.loop-rule.rules ++ r ∷ []) (c.in_ok-it.ensures.rule later b));
}
