use Rattle.std.proofs.Common.{length, sym, arith}
use Rattle.std.proofs.lemmas.Option.{slice_get_read, slice_get_within}
use Rattle.clause_compile.proofs.RuleLemmas.{each-long, each-at}
use Rattle.sequent_rules.specs.Rules.{IsRuleShape}
use Rattle.goal_run.proofs.rules.ProgramCodeRules.shape.Goals as goal

pub index-requires : goal.index-requires
index-requires c =
    let r = c.requires in
    omega (arith, r.3, each-long IsRuleShape c.args.self.now.shapes.items r.1.rules r.2.shapes, c.args.self.now.shapes.ok.0)

pub returns : goal.returns
returns c = λ ns p r w here.
    let shapes = c.args.self.now.shapes.items in
    let there = slice_get_read shapes (length p.rules) c.args.rule c.index.result.now (sym (each-long IsRuleShape shapes p.rules w.shapes)) (slice_get_within p.rules c.args.rule r here) c.index.ensures in
    each-at IsRuleShape shapes p.rules c.args.rule c.index.result.now r w.shapes there here
