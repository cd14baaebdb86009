use Rattle.std.proofs.Common.{◌∙◌, ◌<◌, length, get_or, false, not, refl, arith}
use Rattle.std.proofs.lemmas.List.{get_or_default}
use Rattle.lp_resolve.specs.declared.static_rule.StaticRule.TheVariants.{S4}
use Rattle.mode_check.proofs.Firsts.{marked-more, marked-all}
use Rattle.mode_check.proofs.variables.first_marked.Goals as goal

pub loop-index-preserved : goal.loop-index-preserved
loop-index-preserved c =
    let within : c.loop-index.index < length c.args.usable.now = omega (arith, c.min-index-end.ensures) in
    let placed : c.loop-index.index < length c.args.vars.now = omega (arith, c.min-index-end.ensures) in
    marked-more S4 not c.args.usable.now c.args.vars.now c.loop-index.index (get_or c.args.usable.now c.loop-index.index false) _ _
    c.loop-index.found c.breach_if.result c.earlier-found.result c.breach_if.ensures refl
    (get_or_default c.args.usable.now c.loop-index.index false (get_or c.args.usable.now c.loop-index.index false) within)
    within placed c.loop-index.invariant c.earlier-found.ensures

pub returns : goal.returns
returns c = c.loop-index.invariant ∙ marked-all S4 not c.args.usable.now c.args.vars.now c.loop-index.index (omega (arith, c.min-index-end.ensures))
