use Rattle.std.proofs.Common.{◌≡◌, ◌∙◌, [], flat_map, List, Option, ap}
use Rattle.lp_resolve.specs.declared.program.PredLine.{PredLine}
use Rattle.lp_resolve.specs.declared.program.ClauseTree.{ClauseTree}
use Rattle.lp_resolve.specs.declared.program.RuleTree.{RuleTree}
use Rattle.lp_resolve.specs.declared.static_rule.StaticRule.TheVariants.{S1}
use Rattle.lp_resolve.specs.StaticRules.{Breach, redeclared, line_breaches, clause_head, rule_heads, head_breaches, placed_heads, rule_breaches, breaches_at, earlier, first_of, first_breach}
use Rattle.mode_check.proofs.Firsts.{four-firsts, first-placed}
use Rattle.mode_check.proofs.admission.first_breach.Goals as goal

pub returns : goal.returns
unfolding first_breach
returns c =
    let p = c.args.program.now in
    let clauses : c.in_ok-clause_heads.clause_heads ≡ first_of (flat_map (λ cl. head_breaches p.preds (clause_head cl)) p.clauses) =
    c.in_ok-clause_heads.ensures ∙ ap (λ (cls : List ClauseTree). first_of (flat_map (λ cl. head_breaches p.preds (clause_head cl)) cls)) c.as_slice.ensures in
    let rules : c.in_ok-rule_heads.rule_heads ≡ first_of (flat_map (λ r. flat_map (head_breaches p.preds) (rule_heads r)) p.rules) =
    c.in_ok-rule_heads.ensures ∙ ap (λ (rs : List RuleTree). first_of (flat_map (λ r. flat_map (head_breaches p.preds) (rule_heads r)) rs)) c.as_slice-rules.ensures in
    let heads : c.earlier-in_heads.result ≡ first_of (flat_map (head_breaches p.preds) (placed_heads p)) =
    c.earlier-in_heads.ensures ∙ ap (λ (o : Option Breach). earlier o c.in_ok-rule_heads.rule_heads) clauses
    ∙ ap (earlier (first_of (flat_map (λ cl. head_breaches p.preds (clause_head cl)) p.clauses))) rules
    ∙ first-placed (head_breaches p.preds) clause_head rule_heads p.clauses p.rules in
    four-firsts (breaches_at S1 (redeclared [] p.decls)) (flat_map line_breaches p.decls) (flat_map (head_breaches p.preds) (placed_heads p)) (flat_map rule_breaches p.rules)
    c.in_ok-redeclared.redeclared c.first_reserved-reserved.result c.earlier-in_heads.result c.in_ok-in_rules.in_rules
    c.earlier-in_lines.result c.earlier.result c.earlier-2.result
    (c.in_ok-redeclared.ensures ∙ ap (λ (ls : List PredLine). first_of (breaches_at S1 (redeclared [] ls))) c.as_slice-lines.ensures)
    (c.first_reserved-reserved.ensures ∙ ap (λ (ls : List PredLine). first_of (flat_map line_breaches ls)) c.as_slice-lines.ensures)
    heads
    (c.in_ok-in_rules.ensures ∙ ap (λ (rs : List RuleTree). first_of (flat_map rule_breaches rs)) c.as_slice-rules.ensures)
    c.earlier-in_lines.ensures c.earlier.ensures c.earlier-2.ensures
