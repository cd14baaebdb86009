use Rattle.std.proofs.Common.{◌<◌, sym, subst}
use Rattle.clause_compile.specs.inside.RuleCodes.{IsRuleCode}
use Rattle.clause_compile.proofs.RuleLemmas.{each-at, each-long, rule-shape}
use Rattle.clause_compile.proofs.rules.Rules.shape.Goals as goal

pub code-requires : goal.code-requires
code-requires c = let w = c.requires in subst (λ m. c.args.rule < m) (sym (each-long (IsRuleCode w.3.nodes) c.args.self.now.rules w.2.rules w.3.rules)) w.4

pub returns : goal.returns
returns c = λ n g p r w e. rule-shape w.nodes c.code.result.now r (each-at (IsRuleCode w.nodes) c.args.self.now.rules p.rules c.args.rule c.code.result.now r w.rules c.code.ensures e)
