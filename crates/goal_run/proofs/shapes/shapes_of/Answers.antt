use Rattle.std.proofs.Common.{◌≡◌, ◌∙◌, ◌<◌, ◌≤◌, ◌+◌, ◌++◌, ◌∷◌, [], List, length, take, ap, sym, subst, arith}
use Rattle.std.proofs.lemmas.List.{take_more, take_all}
use Rattle.std.proofs.lemmas.Option.{get_or_from_slice_get}
use Rattle.ref_terms.specs.search.Program.{Rule}
use Rattle.clause_compile.proofs.RuleLemmas.{each-more, item-there}
use Rattle.sequent_rules.specs.declared.rules.RuleShape.{RuleShape}
use Rattle.sequent_rules.specs.Rules.{IsRuleShape}
use Rattle.goal_run.specs.inside.Shapes.{AreShapes}
use Rattle.goal_run.proofs.shapes.shapes_of.Goals as goal

pub shape-requires : goal.shape-requires
shape-requires c =
    let r = c.requires in
    (r.0, r.1, r.2, r.3, omega (arith, c.loop-rule-test.true, c.len-rule-end.ensures r.0 r.1 r.2 r.3))

pub loop-rule-preserved : goal.loop-rule-preserved
loop-rule-preserved c = λ n g p code.
    let i = c.loop-rule.rule in
    let low : i < length p.rules = omega (arith, c.loop-rule-test.true, c.len-rule-end.ensures n g p code) in
    let k = item-there p.rules i low in
    let more : take (i + 1) p.rules ≡ take i p.rules ++ k.0 ∷ [] = take_more p.rules i k.0 low ∙ ap (λ (r : Rule). take i p.rules ++ r ∷ []) (get_or_from_slice_get p.rules i k.0 k.0 k.1) in
    subst (λ (rs : List Rule). AreShapes c.push.new.self.items rs) (sym more)
    (subst (λ (ss : List RuleShape). AreShapes ss (take i p.rules ++ k.0 ∷ [])) (sym c.in_ok-push.ensures.items)
    (each-more IsRuleShape c.loop-rule.shapes.items (take i p.rules) c.in_ok-shape.shape k.0 (c.loop-rule.invariant n g p code) (c.in_ok-shape.ensures k.0 (c.shape.ensures n g p k.0 code k.1))))

pub returns : goal.returns
returns c = λ n g p code.
    let done : length p.rules ≤ c.loop-rule.rule = omega (arith, c.loop-rule-test.false, c.loop-rule.auto.rule-end, c.len-rule-end.ensures n g p code) in
    subst (λ (rs : List Rule). AreShapes c.loop-rule.shapes.items rs) (take_all c.loop-rule.rule p.rules done) (c.loop-rule.invariant n g p code)
