use Rattle.std.proofs.Common.{◌∙◌, Bool, [], ◌∷◌, if◌then◌else◌, ap}
use Rattle.lp_resolve.specs.declared.static_rule.StaticRule.{StaticRule}
use Rattle.lp_resolve.specs.declared.static_rule.StaticRule.TheVariants.{S2, S3, S4, S5}
use Rattle.lp_resolve.specs.StaticRules.{lacks_constant, has_other_arity, has_reserved_head, unusable_variables, breaches_at, first_of}
use Rattle.mode_check.proofs.Firsts.{four-firsts}
use Rattle.mode_check.proofs.heads.first_in_head.Goals as goal

pub returns : goal.returns
returns c =
    let here = λ (s : StaticRule) (b : Bool). breaches_at s (if b then c.args.place ∷ [] else []) in
    four-firsts (here S2 (lacks_constant c.args.tree.now)) (here S3 (has_other_arity c.args.preds.now c.args.tree.now))
    (breaches_at S4 (unusable_variables (record { tree = c.args.tree.now; place = c.args.place; vars = c.args.vars.now })))
    (here S5 (has_reserved_head c.args.tree.now))
    c.breach_if-headless.result c.breach_if-other.result c.in_ok-unusable.unusable c.breach_if-reserved.result
    c.earlier-at_head.result c.earlier.result c.earlier-2.result
    (c.breach_if-headless.ensures ∙ ap (λ b. first_of (here S2 b)) c.lacks_constant.ensures)
    (c.breach_if-other.ensures ∙ ap (λ b. first_of (here S3 b)) c.has_other_arity.ensures)
    c.in_ok-unusable.ensures
    (c.breach_if-reserved.ensures ∙ ap (λ b. first_of (here S5 b)) c.has_reserved_head.ensures)
    c.earlier-at_head.ensures c.earlier.ensures c.earlier-2.ensures
