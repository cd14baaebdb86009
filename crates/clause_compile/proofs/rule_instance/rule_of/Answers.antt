use Rattle.std.proofs.Common.{◌<◌, sym, subst}
use Rattle.clause_compile.specs.inside.RuleCodes.{IsRuleCode}
use Rattle.clause_compile.proofs.RuleLemmas.{each-at, each-long, item-there}
use Rattle.clause_compile.proofs.rule_instance.rule_of.Goals as goal

pub code-requires : goal.code-requires
code-requires c = let w = c.requires in subst (λ m. c.args.rule < m) (sym (each-long (IsRuleCode w.2.nodes) c.args.rules.now.rules w.1.rules w.2.rules)) w.3

pub make_rule-requires : goal.make_rule-requires
make_rule-requires c =
    let w = c.requires in
    let r = item-there w.1.rules c.args.rule w.3 in
    (w.0, w.2.nodes, r.0, w.2.shared, each-at (IsRuleCode w.2.nodes) c.args.rules.now.rules w.1.rules c.args.rule c.code.result.now r.0 w.2.rules c.code.ensures r.1)

pub returns-clause-rule : goal.returns-clause-rule
returns-clause-rule c = λ n p r w e. c.in_ok-made.ensures.rule n w.nodes r w.shared (each-at (IsRuleCode w.nodes) c.args.rules.now.rules p.rules c.args.rule c.code.result.now r w.rules c.code.ensures e)
