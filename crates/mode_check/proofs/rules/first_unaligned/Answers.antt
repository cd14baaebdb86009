use Rattle.std.proofs.Common.{◌∙◌, ◌<◌, length, zip, ap, arith}
use Rattle.lp_resolve.specs.StaticRules.{goals_of, is_unaligned, where_true, breaches_at, first_of}
use Rattle.lp_resolve.specs.declared.static_rule.StaticRule.TheVariants.{S7}
use Rattle.mode_check.proofs.Firsts.{marked-all}
use Rattle.mode_check.proofs.Alignment.{unaligned-more}
use Rattle.mode_check.proofs.rules.first_unaligned.Goals as goal

pub loop-index-preserved : goal.loop-index-preserved
loop-index-preserved c =
    let within : c.loop-index.index < length c.as_slice-pairs.result.now = omega (arith, c.min-index-end.ensures) in
    let placed : c.loop-index.index < length c.as_slice-places.result.now = omega (arith, c.min-index-end.ensures) in
    unaligned-more (goals_of c.args.rule.now) c.in_ok-heads.heads c.as_slice-pairs.result.now c.as_slice-places.result.now c.loop-index.index _ _ _
    c.loop-index.found c.breach_if.result c.earlier-found.result c.breach_if.ensures c.is_unaligned-broken.ensures c.in_ok-heads.ensures
    within placed c.loop-index.invariant c.earlier-found.ensures

pub returns : goal.returns
returns c =
    c.loop-index.invariant
    ∙ marked-all S7 (is_unaligned (goals_of c.args.rule.now)) c.as_slice-pairs.result.now c.as_slice-places.result.now c.loop-index.index (omega (arith, c.min-index-end.ensures))
    ∙ ap (λ pairs. first_of (breaches_at S7 (where_true (is_unaligned (goals_of c.args.rule.now)) (zip pairs c.as_slice-places.result.now)))) c.as_slice-pairs.ensures
    ∙ ap (λ places. first_of (breaches_at S7 (where_true (is_unaligned (goals_of c.args.rule.now)) (zip c.args.rule.now.pairs places)))) c.as_slice-places.ensures
