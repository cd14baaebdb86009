use Rattle.std.proofs.Common.{◌∙◌, ◌<◌, ◌≤◌, length, ap, arith}
use Rattle.lp_resolve.specs.StaticRules.{rule_heads}
use Rattle.mode_check.proofs.HeadBreaches.{heads-next, heads-all, length-rule_heads}
use Rattle.mode_check.proofs.heads.first_in_heads.Goals as goal

pub loop-index-preserved : goal.loop-index-preserved
loop-index-preserved c =
    let placed : c.loop-index.index < length c.as_slice-places.result.now = omega (arith, c.min.ensures, c.min-index-end.ensures) in
    let known : c.loop-index.index < length c.as_slice-vars.result.now = omega (arith, c.min-index-end.ensures) in
    heads-next c.args.preds.now c.args.rule.now c.as_slice-places.result.now c.as_slice-vars.result.now c.loop-index.index c.goal_at-goal.result.now _
    c.index-vars-index.result c.as_slice.result.now c.loop-index.found c.in_ok-next.next c.earlier-found.result
    c.in_ok-next.ensures c.goal_at-goal.ensures c.as_slice-places.ensures c.as_slice-vars.ensures placed known c.index-vars-index.is c.as_slice.ensures
    c.loop-index.invariant c.earlier-found.ensures

pub returns : goal.returns
returns c =
    let all : length (rule_heads c.args.rule.now) ≤ c.loop-index.index =
    omega (arith, length-rule_heads c.args.rule.now, c.head_count.ensures, c.min.ensures, c.min-index-end.ensures, ap length c.as_slice-places.ensures, ap length c.as_slice-vars.ensures) in
    c.loop-index.invariant ∙ heads-all c.args.preds.now c.args.rule.now c.loop-index.index all
