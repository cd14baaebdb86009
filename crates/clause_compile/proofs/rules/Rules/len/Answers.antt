use Rattle.std.proofs.Common.{◌∙◌}
use Rattle.clause_compile.specs.inside.RuleCodes.{IsRuleCode}
use Rattle.clause_compile.proofs.RuleLemmas.{each-long}
use Rattle.clause_compile.proofs.rules.Rules.len.Goals as goal

pub returns : goal.returns
returns c = λ n g p w. c.len.ensures ∙ each-long (IsRuleCode w.nodes) c.args.self.now.rules p.rules w.rules
