use Rattle.std.proofs.Common.{◌∙◌, ◌++◌, List, map, refl, ap₂}
use Rattle.clause_compile.specs.declared.rules.HeadShape as code
use Rattle.sequent_rules.specs.declared.rules.HeadShape.{HeadShape}
use Rattle.goal_run.specs.inside.Shapes.{head_shape}
use Rattle.goal_run.proofs.ShapeLemmas.{rule-shown}
use Rattle.goal_run.proofs.shapes.shape_of_rule.Goals as goal

pub returns : goal.returns
returns c = λ r w.
    let add = λ (shapes : List HeadShape) (heads : List code.HeadShape). shapes ++ map head_shape heads in
    let kept = c.in_ok-add_shapes.ensures ∙ ap₂ add c.new-heads.ensures.items c.as_slice-3.ensures in
    rule-shown c.args.rule.now (record { names = c.in_ok-names.names; kept = c.len.result; heads = c.add_shapes-2.new.shapes; pairs = c.in_ok-pairs.pairs; body_context = c.args.rule.now.body_context }) r
    (c.in_ok-names.ensures.items ∙ c.as_slice.ensures) c.len.ensures (c.in_ok-add_shapes-2.ensures ∙ ap₂ add kept c.as_slice-4.ensures) (c.in_ok-pairs.ensures.items ∙ c.as_slice-2.ensures) refl w
