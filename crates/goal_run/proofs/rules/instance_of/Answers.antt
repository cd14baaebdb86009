use Rattle.std.proofs.Common.{◌∙◌, ◌++◌, List, map, ap}
use Rattle.sequent_rules.specs.declared.rules.HeadInstance.{HeadInstance}
use Rattle.goal_run.specs.inside.Shapes.{head_made}
use Rattle.goal_run.proofs.ShapeLemmas.{rule-made}
use Rattle.goal_run.proofs.rules.instance_of.Goals as goal

pub returns : goal.returns
returns c = λ r depth f g made.
    let kept = c.in_ok-add_heads.ensures ∙ ap (λ (hs : List HeadInstance). hs ++ map head_made c.args.made.kept) c.new-heads.ensures.items in
    rule-made r depth f g c.args.made c.add_heads-2.new.heads (c.in_ok-add_heads-2.ensures ∙ ap (λ (hs : List HeadInstance). hs ++ map head_made c.args.made.removed) kept) made
