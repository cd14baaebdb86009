use Rattle.std.proofs.Common.{◌≡◌, ◌∙◌, ◌+◌, ◌<◌, ◌++◌, ℕ, [], ◌∷◌, List, length, map, take, get_or, ap, sym, subst}
use Rattle.std.proofs.lemmas.List.{take_more, map-append}
use Rattle.std.proofs.lemmas.List.Elements.{All-get_or}
use Rattle.ref_terms.specs.search.Program.{Rule}
use Rattle.level_terms.proofs.GrowthLemmas.{grows-refl, grows-trans}
use Rattle.lp_resolve.specs.declared.program.RuleTree.{RuleTree}
use Rattle.lp_resolve.specs.Plain.{plain_rule}
use Rattle.clause_compile.specs.declared.rules.RuleShape.{RuleShape}
use Rattle.clause_compile.specs.inside.RuleCodes.{IsRuleCode, AreRuleCodes, IsRuleFit}
use Rattle.clause_compile.proofs.RuleLemmas.{each-more, rules-kept}
use Rattle.clause_compile.proofs.rules.rule_codes.Goals as goal

plain-more : (ks : List RuleTree) (i : ℕ) (k : RuleTree) → i < length ks → k ≡ get_or ks i k → map plain_rule (take (i + 1) ks) ≡ map plain_rule (take i ks) ++ plain_rule k ∷ []
plain-more ks i k h e = ap (map plain_rule) (take_more ks i k h ∙ ap (λ (x : RuleTree). take i ks ++ x ∷ []) (sym e)) ∙ map-append plain_rule (take i ks) (k ∷ [])

pub loop-rule-init : goal.loop-rule-init
loop-rule-init c = record {
  codes = subst (λ (cs : List RuleShape). AreRuleCodes c.args.heap.now.nodes cs []) (sym c.new-codes.ensures) tt;
  closed = c.requires.closed;
  grows = grows-refl c.args.heap.now [];
}

pub rule_code-requires-clause-fit : goal.rule_code-requires-clause-fit
rule_code-requires-clause-fit c = subst IsRuleFit (sym c.rule-item.is) (All-get_or IsRuleFit c.args.rules.now c.loop-rule.rule-index c.rule-item.result c.loop-rule-test.true c.requires.fit)

pub returns-in_err-code-clause-grows : goal.returns-in_err-code-clause-grows
returns-in_err-code-clause-grows c = grows-trans c.args.heap.now c.loop-rule.heap c.rule_code.new.heap [] [] [] c.loop-rule.invariant.grows c.rule_code.ensures.grows

pub returns-in_err-push-clause-grows : goal.returns-in_err-push-clause-grows
returns-in_err-push-clause-grows c = grows-trans c.args.heap.now c.loop-rule.heap c.rule_code.new.heap [] [] [] c.loop-rule.invariant.grows c.rule_code.ensures.grows

pub loop-rule-preserved : goal.loop-rule-preserved
loop-rule-preserved c = record {
  codes =
      subst (λ (ks : List Rule). AreRuleCodes c.rule_code.new.heap.nodes c.push.new.self ks) (sym (plain-more c.args.rules.now c.loop-rule.rule-index c.rule-item.result c.loop-rule-test.true c.rule-item.is))
      (subst (λ (cs : List RuleShape). AreRuleCodes c.rule_code.new.heap.nodes cs (map plain_rule (take c.loop-rule.rule-index c.args.rules.now) ++ plain_rule c.rule-item.result ∷ [])) (sym c.in_ok-push.ensures.last)
      (each-more (IsRuleCode c.rule_code.new.heap.nodes) c.loop-rule.codes (map plain_rule (take c.loop-rule.rule-index c.args.rules.now)) c.in_ok-code.code (plain_rule c.rule-item.result)
      (rules-kept c.loop-rule.heap c.rule_code.new.heap c.rule_code.ensures.grows c.loop-rule.codes (map plain_rule (take c.loop-rule.rule-index c.args.rules.now)) c.loop-rule.invariant.codes)
      c.in_ok-code.ensures.code));
  closed = c.in_ok-code.ensures.closed;
  grows = grows-trans c.args.heap.now c.loop-rule.heap c.rule_code.new.heap [] [] [] c.loop-rule.invariant.grows c.rule_code.ensures.grows;
}
