use Rattle.std.proofs.Common.{◌∙◌}
use Rattle.clause_compile.proofs.RuleLemmas.{each-long}
use Rattle.sequent_rules.specs.Rules.{IsRuleShape}
use Rattle.goal_run.proofs.rules.ProgramCodeRules.count.Goals as goal

pub returns : goal.returns
returns c = λ ns p w. c.len.ensures ∙ c.args.self.now.shapes.ok.0 ∙ each-long IsRuleShape c.args.self.now.shapes.items p.rules w.shapes
