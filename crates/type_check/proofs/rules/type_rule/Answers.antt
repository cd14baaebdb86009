use Rattle.std.proofs.Common.{ℕ, List, map, subst}
use Rattle.type_terms.specs.Read.{declared_of}
use Rattle.type_terms.specs.Demands.{Demands}
use Rattle.type_terms.proofs.CallerLemmas.{variables-demanded, variables-known, if-ok}
use Rattle.type_check.specs.Typings.{IsRuleTyped, HasRuleTyping}
use Rattle.type_check.proofs.rules.type_rule.Goals as goal

pub demand_rule-requires : goal.demand_rule-requires
demand_rule-requires c =
    variables-known c.args.graph.now c.free_nodes.new.graph c.in_ok-nodes.nodes.items c.args.rule.now.vars
    (record { declared = c.args.declared; constants = c.args.constants; variables = c.as_slice-variables.result }) c.requires c.as_slice-variables.ensures.value c.in_ok-nodes.ensures

pub returns : goal.returns
returns c =
    let d = declared_of c.args.declared.now in
    let cs = c.args.constants.now in
    let k = c.args.rule.now in
    let g = c.free_nodes.new.graph in
    let g' = c.demand_rule.new.graph in
    if-ok c.demand_rule.result (Demands g g' (λ v. IsRuleTyped d (map v cs) (map v c.as_slice-variables.result.now) k)) (Demands c.args.graph.now g' (λ v. HasRuleTyping d (map v cs) k))
    (λ b r. variables-demanded c.args.graph.now g g' cs c.in_ok-nodes.nodes.items k.vars (λ cs xs. IsRuleTyped d cs xs k) b c.requires c.in_ok-nodes.ensures
    (subst (λ (ks : List ℕ). Demands g g' (λ v. IsRuleTyped d (map v cs) (map v ks) k) b) c.as_slice-variables.ensures.value r))
    c.demand_rule.ensures
