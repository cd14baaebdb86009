use Rattle.std.proofs.Common.{ℕ, List, map, subst}
use Rattle.type_terms.specs.Read.{declared_of}
use Rattle.type_terms.specs.Demands.{Demands}
use Rattle.type_terms.proofs.CallerLemmas.{variables-demanded, variables-known, if-ok}
use Rattle.type_check.specs.Typings.{IsClauseTyped, HasClauseTyping}
use Rattle.type_check.proofs.clauses.type_clause.Goals as goal

pub demand_clause-requires : goal.demand_clause-requires
demand_clause-requires c =
    variables-known c.args.graph.now c.free_nodes.new.graph c.in_ok-nodes.nodes.items c.args.clause.now.vars
    (record { declared = c.args.declared; constants = c.args.constants; variables = c.as_slice-variables.result }) c.requires c.as_slice-variables.ensures.value c.in_ok-nodes.ensures

pub returns : goal.returns
returns c =
    let d = declared_of c.args.declared.now in
    let cs = c.args.constants.now in
    let k = c.args.clause.now in
    let g = c.free_nodes.new.graph in
    let g' = c.demand_clause.new.graph in
    if-ok c.demand_clause.result (Demands g g' (λ v. IsClauseTyped d (map v cs) (map v c.as_slice-variables.result.now) k)) (Demands c.args.graph.now g' (λ v. HasClauseTyping d (map v cs) k))
    (λ b r. variables-demanded c.args.graph.now g g' cs c.in_ok-nodes.nodes.items k.vars (λ cs xs. IsClauseTyped d cs xs k) b c.requires c.in_ok-nodes.ensures
    (subst (λ (ks : List ℕ). Demands g g' (λ v. IsClauseTyped d (map v cs) (map v ks) k) b) c.as_slice-variables.ensures.value r))
    c.demand_clause.ensures
