use Rattle.std.proofs.Common.{◌∙◌, List, map, All, ap, sym, subst}
use Rattle.lp_resolve.specs.declared.program.RuleTree.{RuleTree}
use Rattle.lp_resolve.specs.declared.program.Program.{Program}
use Rattle.lp_resolve.specs.Plain.{plain_rule}
use Rattle.clause_compile.specs.inside.RuleCodes.{AreRuleCodes, IsRuleFit}
use Rattle.clause_compile.proofs.rules.compile_rules.Goals as goal

pub rule_codes-requires-clause-fit : goal.rule_codes-requires-clause-fit
rule_codes-requires-clause-fit c =
    let same = c.as_slice.ensures ∙ ap (λ (p : Program). p.rules) c.program-program.ensures.program in
    subst (λ (rs : List RuleTree). All IsRuleFit rs) (sym same) c.rules_fit.ensures

pub returns-clause-rules : goal.returns-clause-rules
returns-clause-rules c =
    let same = c.as_slice.ensures ∙ ap (λ (p : Program). p.rules) c.program-program.ensures.program in
    subst (λ (rs : List RuleTree). AreRuleCodes c.rule_codes.new.heap.nodes c.in_ok-rules.rules (map plain_rule rs)) same c.in_ok-rules.ensures.codes
