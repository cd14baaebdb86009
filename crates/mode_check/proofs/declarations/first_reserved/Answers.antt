use Rattle.std.proofs.Common.{◌∙◌, [], ◌∷◌, if◌then◌else◌, ap}
use Rattle.lp_resolve.specs.StaticRules.{line_breaches, breaches_at, first_of}
use Rattle.lp_resolve.specs.declared.static_rule.StaticRule.TheVariants.{S5}
use Rattle.mode_check.proofs.Firsts.{next-first}
use Rattle.mode_check.proofs.declarations.first_reserved.Goals as goal

pub loop-line-preserved : goal.loop-line-preserved
loop-line-preserved c =
    next-first line_breaches c.args.lines.now c.loop-line.line-index c.line-item.result c.loop-line.found c.breach_if.result c.earlier-found.result
    c.loop-line-test.true c.line-item.is c.loop-line.invariant
    (c.breach_if.ensures ∙ ap (λ b. first_of (breaches_at S5 (if b then c.line-item.result.place ∷ [] else []))) c.is_reserved.ensures)
    c.earlier-found.ensures
