use Rattle.std.proofs.Common.{◌∙◌, ◌<◌, length, zip, not, ap, arith}
use Rattle.lp_resolve.specs.StaticRules.{is_test, where_true, breaches_at, first_of}
use Rattle.lp_resolve.specs.declared.static_rule.StaticRule.TheVariants.{S8}
use Rattle.mode_check.proofs.Firsts.{marked-more, marked-all}
use Rattle.mode_check.proofs.rules.first_untested.Goals as goal

pub loop-index-preserved : goal.loop-index-preserved
loop-index-preserved c =
    let within : c.loop-index.index < length c.as_slice-tests.result.now = omega (arith, c.min-index-end.ensures) in
    let placed : c.loop-index.index < length c.as_slice-places.result.now = omega (arith, c.min-index-end.ensures) in
    marked-more S8 (λ t. not (is_test t)) c.as_slice-tests.result.now c.as_slice-places.result.now c.loop-index.index c.index-tests-index.result _ _
    c.loop-index.found c.breach_if.result c.earlier-found.result c.breach_if.ensures (ap not c.is_test-broken.ensures) c.index-tests-index.is
    within placed c.loop-index.invariant c.earlier-found.ensures

pub returns : goal.returns
returns c =
    c.loop-index.invariant
    ∙ marked-all S8 (λ t. not (is_test t)) c.as_slice-tests.result.now c.as_slice-places.result.now c.loop-index.index (omega (arith, c.min-index-end.ensures))
    ∙ ap (λ tests. first_of (breaches_at S8 (where_true (λ t. not (is_test t)) (zip tests c.as_slice-places.result.now)))) c.as_slice-tests.ensures
    ∙ ap (λ places. first_of (breaches_at S8 (where_true (λ t. not (is_test t)) (zip c.args.rule.now.tests places)))) c.as_slice-places.ensures
