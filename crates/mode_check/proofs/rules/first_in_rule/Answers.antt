use Rattle.std.proofs.Common.{◌∙◌, not, [], ◌∷◌, if◌then◌else◌, zip, ap}
use Rattle.lp_resolve.specs.StaticRules.{goals_of, has_many_heads, is_unaligned, is_test, where_true, breaches_at, earlier, first_of}
use Rattle.lp_resolve.specs.declared.static_rule.StaticRule.TheVariants.{S6, S7, S8}
use Rattle.mode_check.proofs.Firsts.{first-three}
use Rattle.mode_check.proofs.rules.first_in_rule.Goals as goal

pub returns : goal.returns
returns c =
    let r = c.args.rule.now in
    let many = c.breach_if-many.ensures ∙ ap (λ b. first_of (breaches_at S6 (if b then r.places.rule ∷ [] else []))) c.has_many_heads.ensures in
    c.earlier-2.ensures ∙ ap (λ o. earlier o c.first_untested.result) c.earlier.ensures
    ∙ ap (λ o. earlier (earlier o c.in_ok-unaligned.unaligned) c.first_untested.result) many
    ∙ ap (λ o. earlier (earlier (first_of (breaches_at S6 (if has_many_heads r then r.places.rule ∷ [] else []))) o) c.first_untested.result) c.in_ok-unaligned.ensures
    ∙ ap (earlier (earlier (first_of (breaches_at S6 (if has_many_heads r then r.places.rule ∷ [] else [])))
    (first_of (breaches_at S7 (where_true (is_unaligned (goals_of r)) (zip r.pairs r.places.pairs)))))) c.first_untested.ensures
    ∙ first-three (breaches_at S6 (if has_many_heads r then r.places.rule ∷ [] else []))
    (breaches_at S7 (where_true (is_unaligned (goals_of r)) (zip r.pairs r.places.pairs)))
    (breaches_at S8 (where_true (λ t. not (is_test t)) (zip r.tests r.places.tests)))
