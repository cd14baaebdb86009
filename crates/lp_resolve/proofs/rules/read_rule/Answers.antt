use Rattle.std.proofs.Common.{◌∙◌, ap}
use Rattle.lp_resolve.specs.ProgramReading.{rule_with}
use Rattle.lp_resolve.proofs.RuleLemmas.{rule_with-read}
use Rattle.lp_resolve.proofs.rules.read_rule.Goals as goal

pub returns-clause-rule : goal.returns-clause-rule
returns-clause-rule c later b =
    c.in_ok-it.ensures
    ∙ ap (rule_with c.args.names.now c.args.rule.now c.in_ok-parts.parts) c.len.ensures
    ∙ rule_with-read later c.args.names.now c.args.rule.now c.new-variables.result c.in_ok-parts.parts c.read_parts.new.variables c.new-variables.ensures (c.in_ok-parts.ensures.read.is later b)
